-- The fields of a line are the one way to part it by single spaces.
use Rattle.std.proofs.Common.{◌≡◌, ◌≢◌, ℕ, Bool, true, false, cond, eqb, List, [], ◌∷◌, All, sym, ap, ◌∙◌, refl, arith, rules}
use Rattle.std.proofs.lemmas.Bool.{eqb-false}
use Rattle.std.specs.List.{join_with_byte, onto_first}
use Rattle.std.proofs.lemmas.List.Elements.{All-nil, All-cons, All-head, All-tail, All-weaker}
use Rattle.std.proofs.lemmas.List.Splits.{slice_split_none, slice_split_at, length-slice_split, join_with_byte-slice_split}
use Rattle.text.specs.Fields.{fields_of}
use Rattle.text.specs.Parted.{NoSpace, Parted}

abbrev pub NotSpace : ℕ → Type 0
NotSpace b = b ≢ 32

no_space : (f : List ℕ) → NoSpace f → All (λ b. eqb b 32 ≡ false) f
no_space = All-weaker NotSpace (λ b. eqb b 32 ≡ false) (λ b h. search rules)

fields_joined : (f : List ℕ) (fs : List (List ℕ)) → All NoSpace (f ∷ fs) → fields_of (join_with_byte 32 (f ∷ fs)) ≡ f ∷ fs
fields_joined f [] h = slice_split_none (λ b. eqb b 32) f (no_space f (All-head NoSpace f [] h))
fields_joined f (g ∷ fs) h =
    slice_split_at (λ b. eqb b 32) f 32 (join_with_byte 32 (g ∷ fs)) (no_space f (All-head NoSpace f (g ∷ fs) h)) refl ∙
    ap (λ l. f ∷ l) (fields_joined g fs (All-tail NoSpace f (g ∷ fs) h))

pub only_fields : (line : List ℕ) (fs : List (List ℕ)) → Parted line fs → fs ≡ fields_of line
only_fields line [] h = absurd (omega (arith, h.some))
only_fields line (f ∷ fs) h = sym (fields_joined f fs h.whole) ∙ ap fields_of h.back

-- one byte more in front of a line: a space, or another
byte_more : (b : ℕ) (fs : List (List ℕ)) (space : Bool) → eqb b 32 ≡ space → All NoSpace fs → All NoSpace (cond space ([] ∷ fs) (onto_first b fs))
byte_more b fs true e h = All-cons NoSpace [] fs (All-nil NotSpace) h
byte_more b [] false e h = All-cons NoSpace (b ∷ []) [] (All-cons NotSpace b [] (eqb-false b 32 e) (All-nil NotSpace)) h
byte_more b (f ∷ fs) false e h =
    All-cons NoSpace (b ∷ f) fs (All-cons NotSpace b f (eqb-false b 32 e) (All-head NoSpace f fs h)) (All-tail NoSpace f fs h)

no_space_within : (line : List ℕ) → All NoSpace (fields_of line)
no_space_within [] = All-cons NoSpace [] [] (All-nil NotSpace) (All-nil NoSpace)
no_space_within (b ∷ line) = byte_more b (fields_of line) (eqb b 32) refl (no_space_within line)

pub parted_fields : (line : List ℕ) → Parted line (fields_of line)
parted_fields line = record {
  some = omega (arith, length-slice_split (λ b. eqb b 32) line);
  whole = no_space_within line;
  back = join_with_byte-slice_split 32 line;
}
