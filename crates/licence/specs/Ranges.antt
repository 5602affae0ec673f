-- Spans, and range rules.
use Rattle.std.specs.Prelude.{ℕ, Bool, ◌&&◌, Result, nat_le}
use Rattle.refusal.specs.declared.build.LicenceFault.{LicenceFault}
use Rattle.licence.specs.declared.sets.Span.{Span}
use Rattle.licence.specs.declared.verdict.Verdict.{Verdict}
use Rattle.licence.specs.Rules.{Meaning, covers_by, rule_of}

-- low is not above high
abbrev pub forward : {T : Type 0} → (T → T → Bool) → Span T → Bool
forward le s = le s.low s.high

-- n is from low to high
abbrev pub within : {T : Type 0} → (T → T → Bool) → Span T → T → Bool
within le s n = le s.low n && le n s.high

-- a range rule: a span of cards, a span of keys, and a verdict
abbrev pub RangeMeaning : Type 0
RangeMeaning = Meaning (Span ℕ) (Span ℕ)

-- the range rule covers this card and key
abbrev pub in_range : RangeMeaning → ℕ → ℕ → Bool
in_range = covers_by (within nat_le) (within nat_le)

-- the range rule for these cards and keys, or why there is none
abbrev pub range_of : Span ℕ → Span ℕ → Verdict → Result RangeMeaning LicenceFault
range_of = rule_of (forward nat_le) (forward nat_le)
