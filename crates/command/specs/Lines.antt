-- The command of a line, field by field.
use Rattle.std.specs.Prelude.{ℕ, cond, List, [], ◌∷◌, length, Some, None, Option, nat_le}
use Rattle.std.specs.Option.{option_and_then, option_map}
use Rattle.text.specs.Number.{decimal_of, hex_byte_of}
use Rattle.text.specs.Fields.{fields_of, read_first, rest_of, none_left}
use Rattle.command.specs.Commands.{Command}
use Rattle.command.specs.Commands.Command.{Tree, Rule, Go, Send, Fire, Take, Owed}
use Rattle.command.specs.declared.verbs.Verb.{Verb}
use Rattle.command.specs.declared.verbs.Verb.TheVariants as verbs
use Rattle.command.specs.Verbs.{verb_named}
use Rattle.command.specs.Names.{mode_named, station_named, input_named, class_of, free_word_of}
use Rattle.command.specs.Letters.{route_of}
use Rattle.command.specs.Packets.{packet_of}
use Rattle.command.specs.Sizes.{longest_line}

-- what `read` makes of the first field, and then what `more` makes of that and of the other fields
abbrev pub then_of : {X Y : Type 0} → (List ℕ → Option X) → List (List ℕ) → (X → List (List ℕ) → Option Y) → Option Y
then_of read fs more = option_and_then (λ x. more x (rest_of fs)) (read_first read fs)

-- the command, if no field is left
abbrev pub ended : Command → List (List ℕ) → Option Command
ended c fs = cond (none_left fs) (Some c) None

-- every field as a word
abbrev pub words_of : List (List ℕ) → Option (List ℕ)
words_of [] = Some []
words_of (f ∷ fs) = option_and_then (λ w. option_map (λ ws. w ∷ ws) (words_of fs)) (free_word_of f)

-- what follows `tree`: L
abbrev pub tree_of : List (List ℕ) → Option Command
tree_of fs = then_of decimal_of fs (λ levels. ended (Tree levels))

-- what follows `rule`: A B J K V
abbrev pub rule_of : List (List ℕ) → Option Command
rule_of fs =
    then_of decimal_of fs (λ a fs.
    then_of decimal_of fs (λ b fs.
    then_of hex_byte_of fs (λ j fs.
    then_of hex_byte_of fs (λ k fs.
    then_of class_of fs (λ v.
    ended (Rule (record { low = a; high = b }) (record { low = j; high = k }) v))))))

-- what follows `send`: C M R K W ..
abbrev pub send_of : List (List ℕ) → Option Command
send_of fs =
    then_of decimal_of fs (λ card fs.
    then_of mode_named fs (λ mode fs.
    then_of route_of fs (λ route fs.
    then_of hex_byte_of fs (λ key fs.
    option_map (λ ws. Send card (packet_of mode route key ws)) (words_of fs)))))

-- what follows `fire`: C S I
abbrev pub fire_of : List (List ℕ) → Option Command
fire_of fs =
    then_of decimal_of fs (λ card fs.
    then_of station_named fs (λ station fs.
    then_of input_named fs (λ input.
    ended (Fire card station input))))

-- what follows `take`: C
abbrev pub take_of : List (List ℕ) → Option Command
take_of fs = then_of decimal_of fs (λ card. ended (Take card))

-- the command, by its first word and what follows it
abbrev pub said_after : Verb → List (List ℕ) → Option Command
said_after verbs.Tree fs = tree_of fs
said_after verbs.Rule fs = rule_of fs
said_after verbs.Go fs = ended Go fs
said_after verbs.Send fs = send_of fs
said_after verbs.Fire fs = fire_of fs
said_after verbs.Take fs = take_of fs
said_after verbs.Owed fs = ended Owed fs

abbrev pub fields_command : List (List ℕ) → Option Command
fields_command fs = then_of verb_named fs said_after

-- a longer line is no command
abbrev pub command_of : List ℕ → Option Command
command_of line = cond (nat_le (length line) longest_line) (fields_command (fields_of line)) None
