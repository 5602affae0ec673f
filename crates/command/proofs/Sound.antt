-- What is read is what the line spells.
use Rattle.std.proofs.Common.{◌≡◌, ℕ, ◌≤◌, Bool, true, false, cond, leb, List, [], ◌∷◌, length, IfSome, Some, None, Option, codes, refl, subst, sym, ap, ◌∙◌, arith}
use Rattle.std.specs.Option.{option_and_then, option_map}
use Rattle.std.specs.List.{AllZip}
use Rattle.std.specs.Str.{bytes_eq}
use Rattle.std.proofs.lemmas.Bool.Decides.{nat_tests}
use Rattle.std.proofs.lemmas.Slice.Eq.{bytes_eq-Decides}
use Rattle.packet.specs.declared.heads.Mode.{Mode}
use Rattle.packet.specs.declared.heads.Mode.TheVariants.{Target, Flood}
use Rattle.station.specs.declared.hold.Station.{Station}
use Rattle.station.specs.declared.hold.Station.TheVariants.{Up, Down}
use Rattle.station.specs.declared.hold.Input.{Input}
use Rattle.station.specs.declared.hold.Input.TheVariants.{Left, Right, Queue, Parent, Turn}
use Rattle.text.specs.Number.{decimal_of, hex_byte_of, hex_word_of}
use Rattle.text.specs.Fields.{fields_of}
use Rattle.text.proofs.Parting.{parted_fields}
use Rattle.command.specs.declared.command.Command.{Command as Held}
use Rattle.command.specs.Commands.{Command, meant}
use Rattle.command.specs.Commands.Command.{Tree, Rule, Go, Send, Fire, Take, Owed}
use Rattle.command.specs.declared.verbs.Verb.{Verb}
use Rattle.command.specs.declared.verbs.Verb.TheVariants as verbs
use Rattle.command.specs.Verbs.{verb_named}
use Rattle.command.specs.Names.{mode_named, station_named, input_named, class_of, free_bits, free_word_of}
use Rattle.command.specs.Letters.{route_of}
use Rattle.command.specs.Packets.{packet_of}
use Rattle.command.specs.Lines.{then_of, ended, words_of, tree_of, rule_of, send_of, fire_of, take_of, said_after, fields_command, command_of}
use Rattle.command.specs.Says.{SaysClass, SaysWord, mode_letter, station_letter, input_letter, Says, Spells}
use Rattle.command.specs.Says.Says.{says_tree, says_rule, says_go, says_send, says_fire, says_take, says_owed}
use Rattle.command.proofs.SentWords.{never}
use Rattle.command.proofs.Naming.{name_step, verb_word, verb_is}
use Rattle.command.proofs.RouteBits.{read_says_route}
use Rattle.command.proofs.Saying.{spelled_read}

mode_is : (f : List ℕ) (m : Mode) → mode_named f ≡ Some m → f ≡ mode_letter m
mode_is f m = name_step mode_letter f _ Target m _ refl (name_step mode_letter f _ Flood m _ refl (never m))

station_is : (f : List ℕ) (s : Station) → station_named f ≡ Some s → f ≡ station_letter s
station_is f s = name_step station_letter f _ Up s _ refl (name_step station_letter f _ Down s _ refl (never s))

input_is : (f : List ℕ) (i : Input) → input_named f ≡ Some i → f ≡ input_letter i
input_is f i =
    name_step input_letter f _ Left i _ refl
    (name_step input_letter f _ Right i _ refl
    (name_step input_letter f _ Queue i _ refl
    (name_step input_letter f _ Parent i _ refl
    (name_step input_letter f _ Turn i _ refl
    (never i)))))

-- whatever a value that may be there is made into, it was there
made : {X Y : Type 0} {A : Type 0} (k : X → Option Y) (o : Option X) (y : Y) → option_and_then k o ≡ Some y → ((x : X) → o ≡ Some x → k x ≡ Some y → A) → A
made k None y e go = never y e
made k (Some x) y e go = go x refl e

mapped : {X Y : Type 0} {A : Type 0} (k : X → Y) (o : Option X) (y : Y) → option_map k o ≡ Some y → ((x : X) → o ≡ Some x → k x ≡ y → A) → A
mapped k None y e go = never y e
mapped k (Some x) y e go = go x refl cc

class_by : (f : List ℕ) (v : Option ℕ) (n : Bool) → bytes_eq f (codes "n") ≡ n → cond n (Some None) (option_map Some (decimal_of f)) ≡ Some v → SaysClass f v
class_by f v true n e =
    let same : None ≡ v = cc in
    subst (SaysClass f) same ((bytes_eq-Decides f (codes "n")).0 n)
class_by f v false n e = mapped Some (decimal_of f) v e (λ m is same. subst (SaysClass f) same is)

class_is : (f : List ℕ) (v : Option ℕ) → class_of f ≡ Some v → SaysClass f v
class_is f v = class_by f v (bytes_eq f (codes "n")) refl

bits_is : (n w : ℕ) → free_bits n ≡ Some w → (n ≡ w) × (w ≤ 0x3fffffff)
bits_is n w e = grind (arith, nat_tests)

word_is : (f : List ℕ) (w : ℕ) → free_word_of f ≡ Some w → SaysWord f w
word_is f w e = made free_bits (hex_word_of f) w e (λ n is small. let b = bits_is n w small in (is ∙ ap Some b.0, b.1))

words_are : (fs : List (List ℕ)) (ws : List ℕ) → words_of fs ≡ Some ws → AllZip SaysWord fs ws
words_are [] ws e = let same : [] ≡ ws = cc in subst (AllZip SaysWord []) same tt
words_are (f ∷ fs) ws e =
    made (λ w. option_map (λ vs. w ∷ vs) (words_of fs)) (free_word_of f) ws e (λ w is rest.
    mapped (λ vs. w ∷ vs) (words_of fs) ws rest (λ vs are same.
    subst (AllZip SaysWord (f ∷ fs)) same (word_is f w is, words_are fs vs are)))

-- a first field was there, and was read
then_read : {X Y : Type 0} (P : List (List ℕ) → Type 0) (read : List ℕ → Option X) (fs : List (List ℕ)) (more : X → List (List ℕ) → Option Y) (y : Y) →
    then_of read fs more ≡ Some y → ((f : List ℕ) (rest : List (List ℕ)) (x : X) → read f ≡ Some x → more x rest ≡ Some y → P (f ∷ rest)) → P fs
then_read P read [] more y e go = never y e
then_read P read (f ∷ fs) more y e go = made (λ x. more x fs) (read f) y e (go f fs)

-- no field was left
end_read : (P : List (List ℕ) → Command → Type 0) (d : Command) (fs : List (List ℕ)) (c : Command) → ended d fs ≡ Some c → P [] d → P fs c
end_read P d [] c e p = let same : d ≡ c = cc in subst (P []) same p
end_read P d (f ∷ fs) c e p = never c e

tree_said : (fs : List (List ℕ)) (c : Command) → tree_of fs ≡ Some c → Says (codes "tree" ∷ fs) c
tree_said fs c e =
    then_read (λ fs. Says (codes "tree" ∷ fs) c) decimal_of fs (λ l. ended (Tree l)) c e (λ l fs levels is e.
    end_read (λ fs. Says (codes "tree" ∷ l ∷ fs)) (Tree levels) fs c e (says_tree l levels is))

take_said : (fs : List (List ℕ)) (c : Command) → take_of fs ≡ Some c → Says (codes "take" ∷ fs) c
take_said fs c e =
    then_read (λ fs. Says (codes "take" ∷ fs) c) decimal_of fs (λ n. ended (Take n)) c e (λ f fs card is e.
    end_read (λ fs. Says (codes "take" ∷ f ∷ fs)) (Take card) fs c e (says_take f card is))

fire_said : (fs : List (List ℕ)) (c : Command) → fire_of fs ≡ Some c → Says (codes "fire" ∷ fs) c
fire_said fs c e =
    then_read (λ fs. Says (codes "fire" ∷ fs) c) decimal_of fs (λ n fs. then_of station_named fs (λ s fs. then_of input_named fs (λ i. ended (Fire n s i)))) c e (λ f fs card is e.
    then_read (λ fs. Says (codes "fire" ∷ f ∷ fs) c) station_named fs (λ s fs. then_of input_named fs (λ i. ended (Fire card s i))) c e (λ g fs station at e.
    then_read (λ fs. Says (codes "fire" ∷ f ∷ g ∷ fs) c) input_named fs (λ i. ended (Fire card station i)) c e (λ h fs input by e.
    end_read (λ fs. Says (codes "fire" ∷ f ∷ g ∷ h ∷ fs)) (Fire card station input) fs c e
    (rw (station_is g station at, input_is h input by) (says_fire f card station input is)))))

abbrev ruled : ℕ → ℕ → ℕ → ℕ → Option ℕ → Command
ruled a b j k v = Rule (record { low = a; high = b }) (record { low = j; high = k }) v

abbrev rule_after_keys : ℕ → ℕ → ℕ → ℕ → List (List ℕ) → Option Command
rule_after_keys a b j k fs = then_of class_of fs (λ v. ended (ruled a b j k v))

abbrev rule_after_low_key : ℕ → ℕ → ℕ → List (List ℕ) → Option Command
rule_after_low_key a b j fs = then_of hex_byte_of fs (rule_after_keys a b j)

abbrev rule_after_high : ℕ → ℕ → List (List ℕ) → Option Command
rule_after_high a b fs = then_of hex_byte_of fs (rule_after_low_key a b)

abbrev rule_after_low : ℕ → List (List ℕ) → Option Command
rule_after_low a fs = then_of decimal_of fs (rule_after_high a)

rule_said : (fs : List (List ℕ)) (c : Command) → rule_of fs ≡ Some c → Says (codes "rule" ∷ fs) c
rule_said fs c e =
    then_read (λ fs. Says (codes "rule" ∷ fs) c) decimal_of fs rule_after_low c e (λ a fs low ra e.
    then_read (λ fs. Says (codes "rule" ∷ a ∷ fs) c) decimal_of fs (rule_after_high low) c e (λ b fs high rb e.
    then_read (λ fs. Says (codes "rule" ∷ a ∷ b ∷ fs) c) hex_byte_of fs (rule_after_low_key low high) c e (λ j fs low_key rj e.
    then_read (λ fs. Says (codes "rule" ∷ a ∷ b ∷ j ∷ fs) c) hex_byte_of fs (rule_after_keys low high low_key) c e (λ k fs high_key rk e.
    then_read (λ fs. Says (codes "rule" ∷ a ∷ b ∷ j ∷ k ∷ fs) c) class_of fs (λ v. ended (ruled low high low_key high_key v)) c e (λ v fs class rv e.
    end_read (λ fs. Says (codes "rule" ∷ a ∷ b ∷ j ∷ k ∷ v ∷ fs)) (ruled low high low_key high_key class) fs c e
    (says_rule a b j k v low high low_key high_key class ra rb rj rk (class_is v class rv)))))))

abbrev send_after_key : ℕ → Mode → ℕ → ℕ → List (List ℕ) → Option Command
send_after_key n m r k fs = option_map (λ ws. Send n (packet_of m r k ws)) (words_of fs)

abbrev send_after_route : ℕ → Mode → ℕ → List (List ℕ) → Option Command
send_after_route n m r fs = then_of hex_byte_of fs (send_after_key n m r)

abbrev send_after_mode : ℕ → Mode → List (List ℕ) → Option Command
send_after_mode n m fs = then_of route_of fs (send_after_route n m)

abbrev send_after_card : ℕ → List (List ℕ) → Option Command
send_after_card n fs = then_of mode_named fs (send_after_mode n)

send_said : (fs : List (List ℕ)) (c : Command) → send_of fs ≡ Some c → Says (codes "send" ∷ fs) c
send_said fs c e =
    then_read (λ fs. Says (codes "send" ∷ fs) c) decimal_of fs send_after_card c e (λ n fs card rn e.
    then_read (λ fs. Says (codes "send" ∷ n ∷ fs) c) mode_named fs (send_after_mode card) c e (λ m fs mode rm e.
    then_read (λ fs. Says (codes "send" ∷ n ∷ m ∷ fs) c) route_of fs (send_after_route card mode) c e (λ r fs route rr e.
    then_read (λ fs. Says (codes "send" ∷ n ∷ m ∷ r ∷ fs) c) hex_byte_of fs (send_after_key card mode route) c e (λ k fs key rk e.
    mapped (λ ws. Send card (packet_of mode route key ws)) (words_of fs) c e (λ ws are same.
    subst (Says (codes "send" ∷ n ∷ m ∷ r ∷ k ∷ fs)) same
    (rw (mode_is m mode rm) (says_send n r k fs card mode route key ws rn (read_says_route r route rr) rk (words_are fs ws are))))))))

after_said : (v : Verb) (fs : List (List ℕ)) (c : Command) → said_after v fs ≡ Some c → Says (verb_word v ∷ fs) c
after_said verbs.Tree = tree_said
after_said verbs.Rule = rule_said
after_said verbs.Go = λ fs c e. end_read (λ fs. Says (codes "go" ∷ fs)) Go fs c e says_go
after_said verbs.Send = send_said
after_said verbs.Fire = fire_said
after_said verbs.Take = take_said
after_said verbs.Owed = λ fs c e. end_read (λ fs. Says (codes "owed" ∷ fs)) Owed fs c e says_owed

fields_said : (fs : List (List ℕ)) (c : Command) → fields_command fs ≡ Some c → Says fs c
fields_said fs c e =
    then_read (λ fs. Says fs c) verb_named fs said_after c e (λ f rest v is e.
    subst (λ w. Says (w ∷ rest) c) (sym (verb_is f v is)) (after_said v rest c e))

read_by : (line : List ℕ) (c : Command) (short : Bool) → leb (length line) 200 ≡ short → cond short (fields_command (fields_of line)) None ≡ Some c → Spells line c
read_by line c true short e = record { short = grind (arith, nat_tests); fields = fields_of line; parted = parted_fields line; says = fields_said (fields_of line) c e }
read_by line c false short e = never c e

read_spelled : (line : List ℕ) (c : Command) → command_of line ≡ Some c → Spells line c
read_spelled line c e = read_by line c (leb (length line) 200) refl e

-- an answer is spelled by the line, and what a line spells is the answer
pub sound : (line : List ℕ) (r : Option Held) → option_map meant r ≡ command_of line → IfSome r (λ c. Spells line (meant c))
sound line None e = tt
sound line (Some c) e = read_spelled line (meant c) (sym e)

pub complete : (line : List ℕ) (r : Option Command) → r ≡ command_of line → (c : Command) → Spells line c → r ≡ Some c
complete line r e c s = e ∙ spelled_read line c s
