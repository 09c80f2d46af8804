-- What a line of a script says.
use Rattle.std.specs.Prelude.{ℕ, cond, List, [], Some, None, codes, Option}
use Rattle.std.specs.Str.{bytes_eq}
use Rattle.script.specs.declared.line.Keyword.{Keyword}
use Rattle.script.specs.declared.line.Keyword.TheVariants as keyword
use Rattle.script.specs.declared.line.Line.{Line}
use Rattle.script.specs.declared.line.Line.TheVariants as line
use Rattle.script.specs.declared.method.Method.{Method}
use Rattle.script.specs.declared.method.Method.TheVariants.{Joined, Chains}
use Rattle.script.specs.declared.numbers.Lengths.{Lengths}
use Rattle.script.specs.Numbers.{lengths_in}
use Rattle.script.specs.Words.{word, rest, names_in}

-- a line as its bytes say it; `unknown` has the word, `tables` the four lengths where they fit
pub data Said : Type 0 where
  tables : Option Lengths → Said
  shipped : List ℕ → Said
  own : List ℕ → Said
  load : Said
  opens : Said
  keep : Said
  withdraw : Said
  settle : Method → Said
  ask : List ℕ → List ℕ → Said
  unknown : List ℕ → Said

abbrev pub said_by : Line → Said
said_by (line.Tables lengths) = tables lengths
said_by (line.Shipped text) = shipped text.now
said_by (line.Own text) = own text.now
said_by line.Load = load
said_by line.Open = opens
said_by line.Keep = keep
said_by line.Withdraw = withdraw
said_by (line.Settle method) = settle method
said_by (line.Ask first second) = ask first.now second.now
said_by (line.Unknown word) = unknown word.now

abbrev pub keyword_of : List ℕ → Option Keyword
keyword_of w =
    cond (bytes_eq w (codes "tables")) (Some keyword.Tables)
    (cond (bytes_eq w (codes "shipped")) (Some keyword.Shipped)
    (cond (bytes_eq w (codes "own")) (Some keyword.Own)
    (cond (bytes_eq w (codes "load")) (Some keyword.Load)
    (cond (bytes_eq w (codes "open")) (Some keyword.Open)
    (cond (bytes_eq w (codes "keep")) (Some keyword.Keep)
    (cond (bytes_eq w (codes "withdraw")) (Some keyword.Withdraw)
    (cond (bytes_eq w (codes "settle")) (Some keyword.Settle)
    (cond (bytes_eq w (codes "ask")) (Some keyword.Ask) None))))))))

-- a word alone on its line
abbrev pub alone_said : Option Keyword → List ℕ → Said
alone_said (Some keyword.Tables) w = tables None
alone_said (Some keyword.Shipped) w = shipped []
alone_said (Some keyword.Own) w = own []
alone_said (Some keyword.Load) w = load
alone_said (Some keyword.Open) w = opens
alone_said (Some keyword.Keep) w = keep
alone_said (Some keyword.Withdraw) w = withdraw
alone_said (Some keyword.Settle) w = settle Joined
alone_said (Some keyword.Ask) w = unknown w
alone_said None w = unknown w

abbrev pub asked : List ℕ → Option (List ℕ × List ℕ) → Said
asked w None = unknown w
asked w (Some (first, second)) = ask first second

-- a word with what stands after the space behind it
abbrev pub rest_said : Option Keyword → List ℕ → List ℕ → Said
rest_said (Some keyword.Tables) w text = tables (lengths_in text)
rest_said (Some keyword.Shipped) w text = shipped text
rest_said (Some keyword.Own) w text = own text
rest_said (Some keyword.Load) w text = unknown w
rest_said (Some keyword.Open) w text = unknown w
rest_said (Some keyword.Keep) w text = unknown w
rest_said (Some keyword.Withdraw) w text = unknown w
rest_said (Some keyword.Settle) w text = cond (bytes_eq text (codes "chains")) (settle Chains) (unknown w)
rest_said (Some keyword.Ask) w text = asked w (names_in text)
rest_said None w text = unknown w

abbrev pub word_said : List ℕ → Option (List ℕ) → Said
word_said w None = alone_said (keyword_of w) w
word_said w (Some text) = rest_said (keyword_of w) w text

abbrev pub said : List ℕ → Said
said bytes = word_said (word bytes) (rest bytes)
