-- The withdrawal layer.
use Rattle.std.specs.Prelude.{ℕ, Bool, false, cond, List, replicate, slice_index_or, slice_set}
use Rattle.licence.specs.declared.verdict.Verdict.{Verdict}
use Rattle.licence.specs.declared.verdict.Verdict.TheVariants.{Refuse}
use Rattle.licence.specs.Keys.{all_keys}

-- a layer: the policy below, and for each key whether it is withdrawn
pub record Layer (P : Type 0) : Type 0 where
  pub below : P
  pub marks : List Bool

-- the layer over a policy, with no key withdrawn
abbrev pub fresh : {P : Type 0} → P → Layer P
fresh policy = record { below = policy; marks = replicate all_keys false }

-- the layer with this key withdrawn or not; the other keys and the policy below are as they were
abbrev pub marked : {P : Type 0} → Layer P → ℕ → Bool → Layer P
marked layer key mark = record { below = layer.below; marks = slice_set layer.marks key mark }

-- the key is withdrawn
abbrev pub withdrawn_in : {P : Type 0} → Layer P → ℕ → Bool
withdrawn_in layer key = slice_index_or layer.marks key false

-- 'refuse' for a withdrawn key, and for the others what the policy below means
abbrev pub layered : {P : Type 0} → (P → ℕ → ℕ → Verdict) → Layer P → ℕ → ℕ → Verdict
layered verdict layer card key = cond (withdrawn_in layer key) Refuse (verdict layer.below card key)
