-- What a rulebook says is known, as what each of its rules says is.
use Rattle.std.specs.Prelude.{◌≡◌, ℕ, true, false, cond, List, [], ◌∷◌, Some, refl}
use Rattle.std.specs.List.{find}
use Rattle.std.specs.Option.{option_map_or}
use Rattle.licence.specs.declared.verdict.Verdict.TheVariants.{Refuse}
use Rattle.licence.specs.Verdicts.{known}
use Rattle.licence.specs.Rules.{rule_in}
use Rattle.licence.specs.Ranges.{RangeMeaning, in_range}
use Rattle.rulebook.specs.Rulebooks.{RangeRule, rules_meant, ruled}

pub ruled_known : (rules : List RangeRule) (card key : ℕ) → known (ruled rules card key) ≡ true
ruled_known [] card key = refl
ruled_known (r ∷ rs) card key =
    elim (in_range (rule_in r) card key) as
    (λ here. known (option_map_or (λ (m : RangeMeaning). m.carried) (cond here (Some (rule_in r)) (find (λ m. in_range m card key) (rules_meant rs))) Refuse) ≡ true)
    [ true ↦ r.carried.classed | false ↦ ruled_known rs card key ]
