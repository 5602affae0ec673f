-- An input that is read byte by byte says what its lines say.
use Rattle.std.proofs.Common.{◌≡◌, ℕ, zero, suc, ◌+◌, ◌<◌, ◌≤◌, Bool, true, false, cond, leb, List, [], ◌∷◌, ◌++◌, length, take, drop, map, set, is_some, Some, None, Option, refl, sym, ap, ◌∙◌, arith, rules, append_assoc, append-nil, ap₂, length-append, length-take}
use Rattle.std.specs.List.{slice_split, onto_first}
use Rattle.std.proofs.lemmas.Bool.Decides.{nat_tests}
use Rattle.std.proofs.lemmas.List.{take_all, take-append-le, take_more_set}
use Rattle.std.proofs.lemmas.List.Splits.{length-slice_split}
use Rattle.text.proofs.Cutting.{before, before_nothing, before_byte}
use Rattle.command.specs.Lines.{command_of}
use Rattle.command.specs.Commands.{Command}
use Rattle.memchr.specs.Find.{IsFirst, Passes, is_byte}
use Rattle.command.specs.Inputs.{is_newline, unless_last_empty, lines_of, kept_with, kept_with_all, Fed, fed, said_last, followed, all_said}

-- a byte is put at the end of those that are kept, while there is room
pub keep_room : (bs : List ℕ) (n b : ℕ) → n < 201 → length bs ≡ 201 → take (n + 1) (set bs n b) ≡ take 201 (take n bs ++ b ∷ [])
keep_room bs n b h l =
    let some : length (take n bs ++ b ∷ []) ≤ 201 = simp (length-append, length-take) (omega arith) in
    take_more_set bs n b (omega arith) ∙ sym (take_all 201 (take n bs ++ b ∷ []) some)

pub keep_full : (bs : List ℕ) (n b : ℕ) → n ≡ 201 → length bs ≡ 201 → take n bs ≡ take 201 (take n bs ++ b ∷ [])
keep_full bs n b h l =
    let long : length (take n bs) ≡ 201 = simp length-take (omega arith) in
    sym (take-append-le 201 (take n bs) (b ∷ []) (omega arith) ∙ take_all 201 (take n bs) (omega arith))

-- 201 bytes of a line say what the whole line says
long_says : (p : List ℕ) → 200 < length p → command_of p ≡ None
long_says p h = let long : leb (length p) 200 ≡ false = search rules in rw long refl

cut_by : (p : List ℕ) (short : Bool) → leb (length p) 200 ≡ short → command_of (take 201 p) ≡ command_of p
cut_by p true e = ap command_of (take_all 201 p (grind (arith, nat_tests)))
cut_by p false e =
    let long : 200 < length p = grind (arith, nat_tests) in
    let front : 200 < length (take 201 p) = simp length-take (omega arith) in
    long_says (take 201 p) front ∙ sym (long_says p long)

cut_says : (p : List ℕ) → command_of (take 201 p) ≡ command_of p
cut_says p = cut_by p (leb (length p) 200) refl

-- one byte more of a line of which 201 bytes are kept
more_by : (p : List ℕ) (b : ℕ) (short : Bool) → leb (length p) 200 ≡ short → take 201 (take 201 p ++ b ∷ []) ≡ take 201 (p ++ b ∷ [])
more_by p b true e = ap (λ q. take 201 (q ++ b ∷ [])) (take_all 201 p (grind (arith, nat_tests)))
more_by p b false e =
    let long : 200 < length p = grind (arith, nat_tests) in
    let front : length (take 201 p) ≡ 201 = simp length-take (omega arith) in
    sym (keep_full_of (take 201 p) b front) ∙ sym (take-append-le 201 p (b ∷ []) (omega arith))
  where
    keep_full_of : (h : List ℕ) (b : ℕ) → length h ≡ 201 → h ≡ take 201 (h ++ b ∷ [])
    keep_full_of h b l = sym (take-append-le 201 h (b ∷ []) (omega arith) ∙ take_all 201 h (omega arith))

cut_more : (p : List ℕ) (b : ℕ) → take 201 (take 201 p ++ b ∷ []) ≡ take 201 (p ++ b ∷ [])
cut_more p b = more_by p b (leb (length p) 200) refl

-- a line that others follow is not left out
more_lines : (l : List ℕ) (ls : List (List ℕ)) → 0 < length ls → unless_last_empty (l ∷ ls) ≡ l ∷ unless_last_empty ls
more_lines l [] h = absurd (omega arith)
more_lines [] (m ∷ ls) h = refl
more_lines (b ∷ l) (m ∷ ls) h = refl

end_said : (p : List ℕ) → followed (said_last (take 201 p)) [] ≡ map command_of (unless_last_empty ((p ++ []) ∷ []))
end_said [] = refl
end_said (b ∷ p) = ap (λ c. c ∷ []) (cut_says (b ∷ p) ∙ ap (λ q. command_of (b ∷ q)) (sym (append-nil p)))

all_after : (p bs : List ℕ) → all_said (take 201 p) bs ≡ map command_of (unless_last_empty (before p (slice_split is_newline bs)))
all_after p [] = end_said p
all_after p (b ∷ bs) =
    let some : 0 < length (slice_split is_newline bs) = omega (arith, length-slice_split is_newline bs) in
    elim (is_newline b) as (λ newline.
    followed (cond newline (Some (command_of (take 201 p))) None) (all_said (cond newline [] (take 201 (take 201 p ++ b ∷ []))) bs) ≡
    map command_of (unless_last_empty (before p (cond newline ([] ∷ slice_split is_newline bs) (onto_first b (slice_split is_newline bs)))))) [
      | true ↦
          rw (append-nil, more_lines p (slice_split is_newline bs) some)
          (ap₂ (λ c cs. c ∷ cs) (cut_says p) (all_after [] bs ∙ ap (λ ls. map command_of (unless_last_empty ls)) (before_nothing (slice_split is_newline bs) some)))
      | false ↦
          ap (λ kept. all_said kept bs) (cut_more p b) ∙ (all_after (p ++ b ∷ []) bs ∙ ap (λ ls. map command_of (unless_last_empty ls)) (before_byte p b (slice_split is_newline bs)))
    ]

pub input_said : (input : List ℕ) → all_said [] input ≡ map command_of (lines_of input)
input_said input =
    let some : 0 < length (slice_split is_newline input) = omega (arith, length-slice_split is_newline input) in
    all_after [] input ∙ ap (λ ls. map command_of (unless_last_empty ls)) (before_nothing (slice_split is_newline input) some)

-- A line that is read where it stands is the line that would be kept.
kept_front : (p bs : List ℕ) → kept_with_all (take 201 p) bs ≡ take 201 (p ++ bs)
kept_front p [] = ap (take 201) (sym (append-nil p))
kept_front p (b ∷ bs) =
    ap (λ kept. kept_with_all kept bs) (cut_more p b) ∙ (kept_front (p ++ b ∷ []) bs ∙ ap (take 201) (append_assoc p (b ∷ []) bs))

pub whole_line : (bs : List ℕ) → command_of (kept_with_all [] bs) ≡ command_of bs
whole_line bs = ap command_of (kept_front [] bs) ∙ cut_says bs

-- bytes with no newline among them
abbrev part : List ℕ → List ℕ → Fed
part kept bs = record { said = None; kept = kept_with_all kept bs; left = [] }

pub fed_part : (kept bs : List ℕ) → IsFirst (Passes (is_byte 10) bs) 0 (length bs) None → fed kept bs ≡ part kept bs
fed_part kept [] none = refl
fed_part kept (b ∷ bs) none = by (is_newline b) refl (fed_part (kept_with kept b) bs (λ k low high. none (suc k) (omega arith) (omega arith)))
  where
    by : (n : Bool) → is_newline b ≡ n → fed (kept_with kept b) bs ≡ part (kept_with kept b) bs → fed kept (b ∷ bs) ≡ part kept (b ∷ bs)
    by true e more = absurd (none 0 (omega arith) (omega arith) e)
    by false e more = rw e more

-- bytes whose first newline is the one at i
abbrev line : List ℕ → List ℕ → ℕ → Fed
line kept bs i = record { said = Some (command_of (kept_with_all kept (take i bs))); kept = []; left = drop (suc i) bs }

first_line : (kept bs : List ℕ) (i : ℕ) → IsFirst (Passes (is_byte 10) bs) 0 (length bs) (Some i) → fed kept bs ≡ line kept bs i
first_line kept [] i first = absurd (omega (arith, first.0.high))
first_line kept (b ∷ bs) zero first = rw first.1 refl
first_line kept (b ∷ bs) (suc i) first =
    by (is_newline b) refl (first_line (kept_with kept b) bs i (
      record { low = omega arith; high = omega (arith, first.0.high); before = λ k low high. first.0.before (suc k) (omega arith) (omega arith) },
      first.1,
    ))
  where
    by : (n : Bool) → is_newline b ≡ n → fed (kept_with kept b) bs ≡ line (kept_with kept b) bs i → fed kept (b ∷ bs) ≡ line kept (b ∷ bs) (suc i)
    by true e more = absurd (first.0.before 0 (omega arith) (omega arith) e)
    by false e more = rw e more

pub fed_line : (kept bs : List ℕ) (i : ℕ) → IsFirst (Passes (is_byte 10) bs) 0 (length bs) (Some i) →
    fed kept bs ≡ record { said = Some (command_of (kept_with_all kept (take i bs))); kept = []; left = drop (i + 1) bs }
fed_line kept bs i first = let next : i + 1 ≡ suc i = omega arith in rw next (first_line kept bs i first)

abbrev on : List ℕ → Fed → List (Option Command)
on more f = followed f.said (all_said f.kept (f.left ++ more))

on_fed : (kept bs more : List ℕ) → all_said kept (bs ++ more) ≡ on more (fed kept bs)
on_fed kept [] more = refl
on_fed kept (b ∷ bs) more =
    elim (is_newline b) as (λ newline.
    followed (cond newline (Some (command_of kept)) None) (all_said (cond newline [] (kept_with kept b)) (bs ++ more)) ≡
    on more (cond newline (record { said = Some (command_of kept); kept = []; left = bs }) (fed (kept_with kept b) bs))) [
      | true ↦ refl
      | false ↦ on_fed (kept_with kept b) bs more
    ]

-- what is said from here on is what is said now, and then what is said of the bytes that are left and those after them
pub fed_on : (kept bs more : List ℕ) (said : Option (Option Command)) (kept' left : List ℕ) →
    said ≡ (fed kept bs).said → kept' ≡ (fed kept bs).kept → left ≡ (fed kept bs).left → all_said kept (bs ++ more) ≡ followed said (all_said kept' (left ++ more))
fed_on kept bs more said kept' left s k l = rw (s, k, l) (on_fed kept bs more)

-- a newline is taken off the bytes
pub fed_shorter : (kept bs : List ℕ) → is_some (fed kept bs).said ≡ true → length (fed kept bs).left < length bs
fed_shorter kept [] e = grind arith
fed_shorter kept (b ∷ bs) e = by (is_newline b) (fed_shorter (kept_with kept b) bs) e
  where
    by : (newline : Bool) → (is_some (fed (kept_with kept b) bs).said ≡ true → length (fed (kept_with kept b) bs).left < length bs) →
        is_some (cond newline (record { said = Some (command_of kept); kept = []; left = bs }) (fed (kept_with kept b) bs)).said ≡ true →
        length (cond newline (record { said = Some (command_of kept); kept = []; left = bs }) (fed (kept_with kept b) bs)).left < length (b ∷ bs)
    by true r e = omega arith
    by false r e = let l = r e in omega arith

-- where there is none, all of them are taken
pub fed_all : (kept bs : List ℕ) → (fed kept bs).said ≡ None → (fed kept bs).left ≡ []
fed_all kept [] e = refl
fed_all kept (b ∷ bs) e = by (is_newline b) (fed_all (kept_with kept b) bs) e
  where
    by : (newline : Bool) → ((fed (kept_with kept b) bs).said ≡ None → (fed (kept_with kept b) bs).left ≡ []) →
        (cond newline (record { said = Some (command_of kept); kept = []; left = bs }) (fed (kept_with kept b) bs)).said ≡ None →
        (cond newline (record { said = Some (command_of kept); kept = []; left = bs }) (fed (kept_with kept b) bs)).left ≡ []
    by true r e = grind arith
    by false r e = r e
