-- How the first field is cut off a text.
use Rattle.std.proofs.Common.{◌≡◌, ℕ, ◌+◌, ◌<◌, ◌≤◌, ◌==◌, true, false, not, List, [], ◌∷◌, ◌++◌, length, take, drop, slice_index_or, is_some, Some, None, Option, refl, sym, ◌∙◌, append_assoc, append-nil, arith, Bor}
use Rattle.std.specs.List.{onto_first}
use Rattle.std.proofs.lemmas.List.{take_all, drop_all, take_more, drop_more}
use Rattle.text.specs.Fields.{fields_of, fields_in, none_left}
use Rattle.text.proofs.Parting.{parted_fields}

-- a part of a text before the fields that follow it: it is the front of the first of them
abbrev pub before : List ℕ → List (List ℕ) → List (List ℕ)
before p [] = p ∷ []
before p (f ∷ fs) = (p ++ f) ∷ fs

pub before_nothing : (fs : List (List ℕ)) → 0 < length fs → before [] fs ≡ fs
before_nothing [] h = absurd (omega arith)
before_nothing (f ∷ fs) h = refl

pub before_byte : (p : List ℕ) (b : ℕ) (fs : List (List ℕ)) → before (p ++ b ∷ []) fs ≡ before p (onto_first b fs)
before_byte p b [] = refl
before_byte p b (f ∷ fs) = rw append_assoc refl

-- the first i bytes of a text have no space
abbrev pub NoneYet : List ℕ → ℕ → Type 0
NoneYet bs i = fields_of bs ≡ before (take i bs) (fields_of (drop i bs))

pub none_at_first : (bs : List ℕ) → NoneYet bs 0
none_at_first bs = sym (before_nothing (fields_of bs) (parted_fields bs).some)

-- nor has the next one
pub none_next : (bs : List ℕ) (i : ℕ) → i < length bs → (slice_index_or bs i 0 == 32) ≡ false → NoneYet bs i → NoneYet bs (i + 1)
none_next bs i h other e =
    e ∙ rw (drop_more bs i 0 h, take_more bs i 0 h, other) (sym (before_byte (take i bs) (slice_index_or bs i 0) (fields_of (drop (i + 1) bs))))

-- the next one is a space
pub cut_here : (bs : List ℕ) (i : ℕ) → i < length bs → (slice_index_or bs i 0 == 32) ≡ true → NoneYet bs i → fields_of bs ≡ take i bs ∷ fields_of (drop (i + 1) bs)
cut_here bs i h space e = e ∙ rw (drop_more bs i 0 h, space, append-nil) refl

-- there is no next one
pub cut_nowhere : (bs : List ℕ) (i : ℕ) → length bs ≤ i → NoneYet bs i → fields_of bs ≡ bs ∷ []
cut_nowhere bs i h e = e ∙ rw (drop_all i bs h, take_all i bs h, append-nil) refl

some_left : (fs : List (List ℕ)) → 0 < length fs → none_left fs ≡ false
some_left [] h = absurd (omega arith)
some_left (f ∷ fs) h = refl

-- a text has a field
pub none_left_lem : (o : Option (Bor (List ℕ))) → none_left (fields_in o) ≡ not (is_some o)
none_left_lem None = refl
none_left_lem (Some text) = some_left (fields_of text.now) (parted_fields text.now).some
