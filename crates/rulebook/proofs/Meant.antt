-- Rules in hand decide as what they mean.
use Rattle.std.proofs.Common.{◌≡◌, ℕ, Bool, true, false, cond, List, [], ◌∷◌, Some, nat_le, refl, rules, tests}
use Rattle.std.specs.List.{find}
use Rattle.std.specs.Option.{option_map_or}
use Rattle.std.specs.Ordering.{partial_le, nat_cmp}
use Rattle.licence.specs.declared.verdict.Verdict.TheVariants.{Refuse}
use Rattle.licence.specs.Rules.{rule_in, rule_covers, rule_carries}
use Rattle.licence.specs.Ranges.{RangeMeaning, in_range, within}
use Rattle.licence.specs.Books.{first_of}
use Rattle.rulebook.specs.Rulebooks.{RangeRule, rules_meant, ruled}

abbrev le : ℕ → ℕ → Bool
le = partial_le (λ x y. Some (nat_cmp x y))

same_le : (a b : ℕ) → le a b ≡ nat_le a b
same_le a b = search (rules, tests)

abbrev covers : RangeRule → ℕ → ℕ → Bool
covers = rule_covers (within le) (within le)

same : (r : RangeRule) (card key : ℕ) → covers r card key ≡ in_range (rule_in r) card key
same r card key = rw (same_le r.cards.low card, same_le card r.cards.high, same_le r.keys.low key, same_le key r.keys.high) refl

pub meant : (rules : List RangeRule) (card key : ℕ) → first_of covers rule_carries rules card key ≡ ruled rules card key
meant [] card key = refl
meant (r ∷ rs) card key = rw (same r card key) (
    elim (in_range (rule_in r) card key) as
    (λ here. option_map_or rule_carries (cond here (Some r) (find (λ q. covers q card key) rs)) Refuse
    ≡ option_map_or (λ (m : RangeMeaning). m.carried) (cond here (Some (rule_in r)) (find (λ m. in_range m card key) (rules_meant rs))) Refuse)
    [ true ↦ refl | false ↦ meant rs card key ])
