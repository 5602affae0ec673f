-- What holds of every step from a station holds of every output of it.
use Rattle.std.proofs.Common.{◌≡◌, ℕ, Bool, true, false, cond, List, [], ◌∷◌, ◌++◌, Some, None, Option, refl, arith}
use Rattle.std.specs.List.{AllByRecursion}
use Rattle.packet.specs.Heads.{floods}
use Rattle.packet.specs.Routes.{side_of, stops, top_bit}
use Rattle.packet.specs.declared.sides.Side.{Side}
use Rattle.packet.specs.declared.sides.Side.TheVariants.{Left, Right}
use Rattle.wiring.specs.Shapes.{Shape}
use Rattle.station.specs.declared.channel.Channel.{Channel}
use Rattle.station.specs.declared.channel.Channel.TheVariants.{TurnLink}
use Rattle.network.specs.Nodes.{Node, above, down, down_link_to, outs, up, up_link_of}
use Rattle.network.specs.Paths.{Step, climbs, descends, spreads, turns}
use Rattle.network.specs.Sums.{sum_over}
use Rattle.network.proofs.UnderWay.{outs_of}

pub all_append : {A : Type 0} (P : A → Type 0) (xs ys : List A) → AllByRecursion P xs → AllByRecursion P ys → AllByRecursion P (xs ++ ys)
all_append P [] ys a b = b
all_append P (x ∷ xs) ys a b = (a.0, all_append P xs ys a.1 b)

pub all_map : {A : Type 0} (P Q : A → Type 0) → ((x : A) → P x → Q x) → (xs : List A) → AllByRecursion P xs → AllByRecursion Q xs
all_map P Q g [] a = tt
all_map P Q g (x ∷ xs) a = (g x a.0, all_map P Q g xs a.1)

pub all_map₂ : {A : Type 0} (P Q R : A → Type 0) → ((x : A) → P x → Q x → R x) → (xs : List A) → AllByRecursion P xs → AllByRecursion Q xs → AllByRecursion R xs
all_map₂ P Q R g [] a b = tt
all_map₂ P Q R g (x ∷ xs) a b = (g x a.0 b.0, all_map₂ P Q R g xs a.1 b.1)

pub sum_over_same : {A : Type 0} (f g : A → ℕ) (xs : List A) → AllByRecursion (λ o. f o ≡ g o) xs → sum_over xs f ≡ sum_over xs g
unfolding sum_over
sum_over_same f g [] e = refl
sum_over_same f g (x ∷ xs) e = let t = sum_over_same f g xs e.1 in omega arith

-- the channels into which a station sends are the steps from it
module _ (W : Shape) where
  rises : (c g : ℕ) → top_bit g ≡ true → (p : Option ℕ) → above W c ≡ p → AllByRecursion (Step W (up c) g) (up_link_of c p)
  unfolding up_link_of
  rises c g t None e = tt
  rises c g t (Some p) e = (climbs c p g t e, tt)

  falls : (c g : ℕ) → stops g ≡ false → (d : Option ℕ) → W.daughter (side_of (top_bit g)) c ≡ d → AllByRecursion (Step W (down c) g) (down_link_to d)
  unfolding down_link_to
  falls c g t None e = tt
  falls c g t (Some d) e = (descends c d g t e, tt)

  floods_on : (c g : ℕ) → stops g ≡ true → floods g ≡ true → (b : Side) (d : Option ℕ) → W.daughter b c ≡ d → AllByRecursion (Step W (down c) g) (down_link_to d)
  unfolding down_link_to
  floods_on c g t f b None e = tt
  floods_on c g t f b (Some d) e = (spreads b c d g t f e, tt)

  pub outs_step : (n : Node) (g : ℕ) → AllByRecursion (Step W n g) (outs W n g)
  unfolding outs
  outs_step (up c) g = ways (top_bit g) refl
    where
      ways : (b : Bool) → top_bit g ≡ b → AllByRecursion (Step W (up c) g) (cond b (up_link_of c (above W c)) (TurnLink c ∷ []))
      ways true t = rises c g t (above W c) refl
      ways false t = (turns c g t, tt)
  outs_step (down c) g = ways (stops g) refl (floods g) refl
    where
      ways : (a : Bool) → stops g ≡ a → (b : Bool) → floods g ≡ b →
          AllByRecursion (Step W (down c) g) (cond a (cond b (down_link_to (W.daughter Left c) ++ down_link_to (W.daughter Right c)) []) (down_link_to (W.daughter (side_of (top_bit g)) c)))
      ways true t true f = all_append _ (down_link_to (W.daughter Left c)) (down_link_to (W.daughter Right c)) (floods_on c g t f Left (W.daughter Left c) refl) (floods_on c g t f Right (W.daughter Right c) refl)
      ways true t false f = tt
      ways false t b f = falls c g t (W.daughter (side_of (top_bit g)) c) refl

  pub outs_each : (P : Channel → Type 0) (n : Node) (g : ℕ) → ((o : Channel) → Step W n g o → P o) → AllByRecursion P (outs W n g)
  outs_each P n g f = all_map (Step W n g) P f (outs W n g) (outs_step n g)

  pub outs_of_each : (P : Channel → Type 0) (n : Node) (q : List ℕ) → ((g : ℕ) (o : Channel) → Step W n g o → P o) → AllByRecursion P (outs_of W n q)
  unfolding outs_of
  outs_of_each P n [] f = tt
  outs_of_each P n (h ∷ q) f = outs_each P n h (f h)
