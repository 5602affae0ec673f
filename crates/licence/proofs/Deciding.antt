-- The first rule that covers decides.
use Rattle.std.proofs.Common.{◌≡◌, ℕ, zero, suc, Bool, true, false, List, [], ◌∷◌, Some, refl, ◌∙◌, arith}
use Rattle.std.specs.List.{slice_get}
use Rattle.licence.specs.declared.verdict.Verdict.{Verdict}
use Rattle.licence.specs.declared.verdict.Verdict.TheVariants.{Refuse}
use Rattle.licence.specs.Books.{first_of, FirstAt, Decided}

module _ {R : Type 0} (covers : R → ℕ → ℕ → Bool) (carried : R → Verdict) (card key : ℕ) where
  first : (rules : List R) (i : ℕ) (rule : R) → FirstAt covers rules card key i rule → first_of covers carried rules card key ≡ carried rule
  first [] i rule at = let z : ◌≡◌ {A = ℕ} 0 1 = cc in let no : ⊥ = omega arith in absurd no
  first (r ∷ rules) zero rule at =
      let same : r ≡ rule = cc in
      let here : covers r card key ≡ true = rw same at.here in
      rw here (rw same)
  first (r ∷ rules) (suc i) rule at =
      let away : covers r card key ≡ false = at.before 0 r (omega arith) refl in
      rw away (first rules i rule (record { there = at.there; here = at.here; before = λ j earlier h. at.before (suc j) earlier (omega arith) }))

  none : (rules : List R) → ((i : ℕ) (rule : R) → slice_get rules i ≡ Some rule → covers rule card key ≡ false) → first_of covers carried rules card key ≡ Refuse
  none [] away = refl
  none (r ∷ rules) away = rw (away 0 r refl) (none rules (λ i. away (suc i)))

  pub decided : (rules : List R) (verdict : Verdict) → verdict ≡ first_of covers carried rules card key → Decided covers carried rules card key verdict
  decided rules verdict e = record { first = λ i rule at. e ∙ first rules i rule at; none = λ away. e ∙ none rules away }
