-- The letters of what a route asks for are the route that is written for it.
use Rattle.std.proofs.Common.{◌≡◌, ℕ, zero, suc, ◌+◌, ◌*◌, ◌/◌, ◌^◌, ◌<◌, ◌≤◌, Bool, true, false, cond, ◌&&◌, leb, List, [], ◌∷◌, ◌++◌, length, map, Some, None, refl, ap, ◌∙◌, arith}
use Rattle.std.proofs.lemmas.Bool.Decides.{nat_tests}
use Rattle.packet.specs.declared.sides.Side.{Side}
use Rattle.packet.specs.declared.sides.Side.TheVariants.{Left, Right}
use Rattle.packet.specs.Routes.{leads, down_for, route_for, write_route}
use Rattle.command.specs.Letters.{letters_from, route_of}
use Rattle.command.specs.Courses.{side_byte, course_text, CoursesReadBack}
use Rattle.command.proofs.RouteBits.{half}

abbrev down_text : List Side → List ℕ
down_text ss = map side_byte ss ++ 83 ∷ []

-- the letters of a way down, after others that make the number n
down_read : (k n : ℕ) (ss : List Side) → length ss + 1 ≤ k → letters_from (2 ^ k / 2) n (down_text ss) ≡ Some (n + down_for k ss)
unfolding down_for
down_read zero n ss few = absurd (omega arith)
down_read (suc k) n [] few = rw (half k) (ap Some (omega arith))
down_read (suc k) n (Left ∷ ss) few = rw (half k) (down_read k (n + 0 * 2 ^ k) ss (omega arith) ∙ ap Some (omega arith))
down_read (suc k) n (Right ∷ ss) few = rw (half k) (down_read k (n + 1 * 2 ^ k) ss (omega arith) ∙ ap Some (omega arith))

-- those of a whole route
course_read : (k n a : ℕ) (ss : List Side) → a + length ss + 2 ≤ k → letters_from (2 ^ k / 2) n (course_text (leads a ss)) ≡ Some (n + route_for k a ss)
unfolding route_for
course_read zero n a ss few = absurd (omega arith)
course_read (suc k) n zero ss few = rw (half k) (down_read k (n + 0 * 2 ^ k) ss (omega arith) ∙ ap Some (omega arith))
course_read (suc k) n (suc a) ss few = rw (half k) (course_read k (n + 1 * 2 ^ k) a ss (omega arith) ∙ ap Some (omega arith))

letters_count : (a : ℕ) (ss : List Side) → length (course_text (leads a ss)) ≡ a + length ss + 2
letters_count zero [] = refl
letters_count zero (s ∷ ss) = let more = letters_count zero ss in omega arith
letters_count (suc a) ss = let more = letters_count a ss in omega arith

pub courses_read : CoursesReadBack
courses_read l = by (leb (l.ups + length l.descents) 7) refl
  where
    either : (b : Bool) → cond (b && false) (letters_from 256 0 (course_text l)) None ≡ None
    either true = refl
    either false = refl

    by : (fits : Bool) → leb (l.ups + length l.descents) 7 ≡ fits → route_of (course_text l) ≡ write_route l
    by true e =
        let few : l.ups + length l.descents ≤ 7 = grind (arith, nat_tests) in
        let count = letters_count l.ups l.descents in
        let some : leb 1 (length (course_text l)) ≡ true = grind (arith, nat_tests) in
        let short : leb (length (course_text l)) 9 ≡ true = grind (arith, nat_tests) in
        rw (e, some, short) (course_read 9 0 l.ups l.descents (omega arith) ∙ ap Some (omega arith))
    by false e =
        let many : 7 < l.ups + length l.descents = grind (arith, nat_tests) in
        let count = letters_count l.ups l.descents in
        let long : leb (length (course_text l)) 9 ≡ false = grind (arith, nat_tests) in
        rw (e, long) (either (leb 1 (length (course_text l))))
