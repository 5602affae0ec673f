-- A name that is read is the name that it is.
use Rattle.std.proofs.Common.{◌≡◌, ℕ, Bool, true, false, cond, List, Some, Option, codes, refl, ◌⊎◌, inl, inr, ⊎_elim, ap, ◌∙◌, sym}
use Rattle.std.specs.Str.{bytes_eq}
use Rattle.std.proofs.lemmas.Slice.Eq.{bytes_eq-Decides}
use Rattle.command.specs.declared.verbs.Verb.{Verb}
use Rattle.command.specs.declared.verbs.Verb.TheVariants.{Tree, Rule, Go, Send, Fire, Take, Owed}
use Rattle.command.specs.Verbs.{verb_named}
use Rattle.command.proofs.SentWords.{never}

-- a chain of names: the field is this name, or one of those that follow
chosen : {X : Type 0} (b : Bool) (x y : X) (o : Option X) → cond b (Some x) o ≡ Some y → ((b ≡ true) × (x ≡ y)) ⊎ (o ≡ Some y)
chosen true x y o e = inl (refl, cc)
chosen false x y o e = inr e

-- one step of the chain: if the rest of it names words rightly, so does all of it
pub name_step : {X : Type 0} (word : X → List ℕ) (f w : List ℕ) (x y : X) (o : Option X) → word x ≡ w → (o ≡ Some y → f ≡ word y) → cond (bytes_eq f w) (Some x) o ≡ Some y → f ≡ word y
name_step word f w x y o is more e =
    ⊎_elim
    (λ h. (bytes_eq-Decides f w).0 h.0 ∙ (sym is ∙ ap word h.1))
    more
    (chosen (bytes_eq f w) x y o e)

-- the word of a verb
abbrev pub verb_word : Verb → List ℕ
verb_word Tree = codes "tree"
verb_word Rule = codes "rule"
verb_word Go = codes "go"
verb_word Send = codes "send"
verb_word Fire = codes "fire"
verb_word Take = codes "take"
verb_word Owed = codes "owed"

pub verb_is : (f : List ℕ) (v : Verb) → verb_named f ≡ Some v → f ≡ verb_word v
verb_is f v =
    name_step verb_word f _ Tree v _ refl
    (name_step verb_word f _ Rule v _ refl
    (name_step verb_word f _ Go v _ refl
    (name_step verb_word f _ Send v _ refl
    (name_step verb_word f _ Fire v _ refl
    (name_step verb_word f _ Take v _ refl
    (name_step verb_word f _ Owed v _ refl
    (never v)))))))
