-- What it means that a line spells a command. A line and a field are lists of bytes.
use Rattle.std.specs.Prelude.{◌≡◌, ℕ, ◌≤◌, List, [], ◌∷◌, length, Some, None, codes, Option}
use Rattle.std.specs.List.{AllZip}
use Rattle.packet.specs.declared.heads.Mode.{Mode}
use Rattle.packet.specs.declared.heads.Mode.TheVariants.{Target, Flood}
use Rattle.station.specs.declared.hold.Station.{Station}
use Rattle.station.specs.declared.hold.Station.TheVariants.{Up, Down}
use Rattle.station.specs.declared.hold.Input.{Input}
use Rattle.station.specs.declared.hold.Input.TheVariants.{Left, Right, Queue, Parent, Turn}
use Rattle.text.specs.Number.{decimal_of, hex_byte_of, hex_word_of}
use Rattle.text.specs.Parted.{Parted}
use Rattle.command.specs.Commands.{Command}
use Rattle.command.specs.Commands.Command.{Tree, Rule, Go, Send, Fire, Take, Owed}
use Rattle.command.specs.Letters.{SaysRoute}
use Rattle.command.specs.Packets.{packet_of}
use Rattle.command.specs.Sizes.{longest_line, most_free}

-- how a mode, a station and an input are written
abbrev pub mode_letter : Mode → List ℕ
mode_letter Target = codes "T"
mode_letter Flood = codes "F"

abbrev pub station_letter : Station → List ℕ
station_letter Up = codes "u"
station_letter Down = codes "d"

abbrev pub input_letter : Input → List ℕ
input_letter Left = codes "l"
input_letter Right = codes "r"
input_letter Queue = codes "q"
input_letter Parent = codes "p"
input_letter Turn = codes "t"

-- n says 'refuse', and a number is a class
abbrev pub SaysClass : List ℕ → Option ℕ → Type 0
SaysClass f None = f ≡ codes "n"
SaysClass f (Some v) = decimal_of f ≡ Some v

-- a word has 30 free bits
abbrev pub SaysWord : List ℕ → ℕ → Type 0
SaysWord f w = (hex_word_of f ≡ Some w) × (w ≤ most_free)

-- these fields say this command
pub data Says : List (List ℕ) → Command → Type 0 where
  says_tree : (l : List ℕ) (levels : ℕ) → decimal_of l ≡ Some levels → Says (codes "tree" ∷ l ∷ []) (Tree levels)
  says_rule : (a b j k v : List ℕ) (low high low_key high_key : ℕ) (class : Option ℕ) →
      decimal_of a ≡ Some low → decimal_of b ≡ Some high → hex_byte_of j ≡ Some low_key → hex_byte_of k ≡ Some high_key → SaysClass v class →
      Says (codes "rule" ∷ a ∷ b ∷ j ∷ k ∷ v ∷ []) (Rule (record { low = low; high = high }) (record { low = low_key; high = high_key }) class)
  says_go : Says (codes "go" ∷ []) Go
  says_send : (c r k : List ℕ) (ws : List (List ℕ)) (card : ℕ) (mode : Mode) (route key : ℕ) (words : List ℕ) →
      decimal_of c ≡ Some card → SaysRoute r route → hex_byte_of k ≡ Some key → AllZip SaysWord ws words →
      Says (codes "send" ∷ c ∷ mode_letter mode ∷ r ∷ k ∷ ws) (Send card (packet_of mode route key words))
  says_fire : (c : List ℕ) (card : ℕ) (station : Station) (input : Input) → decimal_of c ≡ Some card →
      Says (codes "fire" ∷ c ∷ station_letter station ∷ input_letter input ∷ []) (Fire card station input)
  says_take : (c : List ℕ) (card : ℕ) → decimal_of c ≡ Some card → Says (codes "take" ∷ c ∷ []) (Take card)
  says_owed : Says (codes "owed" ∷ []) Owed

-- the line, of 200 bytes at most, is parted by single spaces into fields that say the command
pub record Spells (line : List ℕ) (c : Command) : Type 0 where
  pub short : length line ≤ longest_line
  pub fields : List (List ℕ)
  pub parted : Parted line fields
  pub says : Says fields c
