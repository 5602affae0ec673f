-- Rules of two sets: whom a rule is for, and what it says.
use Rattle.std.specs.Prelude.{ℕ, Bool, cond, ◌&&◌, Ok, Err, Result}
use Rattle.refusal.specs.declared.build.LicenceFault.{LicenceFault}
use Rattle.refusal.specs.declared.build.LicenceFault.TheVariants.{BadRule}
use Rattle.licence.specs.declared.set_rule.SetRule.{SetRule}
use Rattle.licence.specs.declared.verdict.Verdict.{Verdict}
use Rattle.licence.specs.Verdicts.{known}

-- what a rule holds: a set of cards, a set of keys, and a verdict
pub record Meaning (C K : Type 0) : Type 0 where
  pub cards : C
  pub keys : K
  pub carried : Verdict

-- the rule covers this card and key: each is in its set
abbrev pub covers_by : {C K : Type 0} → (C → ℕ → Bool) → (K → ℕ → Bool) → Meaning C K → ℕ → ℕ → Bool
covers_by has_card has_key m card key = has_card m.cards card && has_key m.keys key

-- the rule for these cards and keys, or why there is none: both sets must be sound, and the verdict known
abbrev pub rule_of : {C K : Type 0} → (C → Bool) → (K → Bool) → C → K → Verdict → Result (Meaning C K) LicenceFault
rule_of sound_cards sound_keys cards keys carried =
    cond (sound_cards cards && (sound_keys keys && known carried)) (Ok (record { cards = cards; keys = keys; carried = carried })) (Err BadRule)

-- what a rule in hand means
abbrev pub rule_in : {C K : Type 0} → SetRule C K → Meaning C K
rule_in r = record { cards = r.cards; keys = r.keys; carried = r.carried.verdict }

-- the rule in hand covers this card and key
abbrev pub rule_covers : {C K : Type 0} → (C → ℕ → Bool) → (K → ℕ → Bool) → SetRule C K → ℕ → ℕ → Bool
rule_covers has_card has_key r = covers_by has_card has_key (rule_in r)

-- the verdict that it carries
abbrev pub rule_carries : {C K : Type 0} → SetRule C K → Verdict
rule_carries r = (rule_in r).carried
