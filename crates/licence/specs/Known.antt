-- What a book says is known, if what each of its rules says is.
use Rattle.std.specs.Prelude.{◌≡◌, ℕ, Bool, true, List, Some, None, refl}
use Rattle.std.specs.List.{find}
use Rattle.std.specs.Option.{option_map_or}
use Rattle.licence.specs.declared.verdict.Verdict.{Verdict}
use Rattle.licence.specs.declared.verdict.Verdict.TheVariants.{Refuse}
use Rattle.licence.specs.Verdicts.{known}
use Rattle.licence.specs.Books.{first_of}

pub first_known : {R : Type 0} (covers : R → ℕ → ℕ → Bool) (carried : R → Verdict) → ((rule : R) → known (carried rule) ≡ true)
    → (rules : List R) (card key : ℕ) → known (first_of covers carried rules card key) ≡ true
first_known covers carried each rules card key =
    elim (find (λ rule. covers rule card key) rules) as (λ found. known (option_map_or carried found Refuse) ≡ true) [ None ↦ refl | Some rule ↦ each rule ]
