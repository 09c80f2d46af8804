-- What the readers of names promise each other: how the reading of a line goes on from one of its bytes.
use Rattle.std.specs.Prelude.{◌≡◌, ℕ, ◌+◌, ◌<◌, ◌≤◌, true, false, cond, List, [], length, drop, Some, None, Ok, Err, Option, Result, ◌≢◌, nat_lt, slice_index, slice_range}
use Rattle.grammar.specs.declared.fault.Fault.{Fault}
use Rattle.grammar.specs.declared.cursor.Cursor.{Cursor}
use Rattle.grammar.specs.Bytes.{begins, continues, comma, opening, closing}
use Rattle.grammar.specs.Grammar.{Named}
use Rattle.grammar.specs.Reading.{State, Part, Mode, base, fresh, in_word, closed, in_name, Memory, begun, ended, all_names, misplaced, unfinished, Outcome, lawful, unlawful, reading_from}

-- what becomes of the line s from its byte i on
abbrev pub onward : List ℕ → ℕ → State → Memory → Outcome
onward s i t m = reading_from t m (i + 1) (drop i s)

-- the bytes of s from f up to i
abbrev pub part : List ℕ → ℕ → ℕ → List ℕ
part s f i = slice_range s f i

-- at i, in a name that began at f
abbrev pub recalled : List ℕ → List Named → ℕ → ℕ → Memory
recalled s ns f i = record { names = ns; from = f + 1; kept = part s f i }

-- the fault at i, where the grammar does not admit what stands there, with so many brackets open
abbrev pub misfit : List ℕ → ℕ → ℕ → Fault
misfit s i d = record { rule = cond (nat_lt i (length s)) (misplaced d (slice_index s i)) (unfinished d); column = i + 1 }

-- the byte at a place; 0, which the grammar has nowhere, at the line's end
abbrev pub byte_of : Cursor → ℕ
byte_of c = slice_index c.line.now c.pos

-- what becomes of the line from a place in a name on, after some other names
abbrev pub reads : Part → Mode → List Named → Cursor → Outcome
reads p m ns c = onward c.line.now c.pos (in_name p m c.depth) (recalled c.line.now ns c.from c.pos)

-- a place further on in the same name
abbrev pub Further : Cursor → Cursor → Type 0
Further c e = (e.line ≡ c.line) × (e.from ≡ c.from) × (c.pos < e.pos)

-- where the byte b leads in a name with d brackets open, so that k are open after it
abbrev pub Leads : Mode → ℕ → ℕ → ℕ → Mode → Type 0
Leads fresh b d k in_word = (begins b ≡ true) × (k ≡ d)
Leads fresh b d k fresh = ⊥
Leads fresh b d k closed = ⊥
Leads in_word b d k in_word = (continues b ≡ true) × (k ≡ d)
Leads in_word b d k fresh = (b ≡ opening) × (k ≡ d + 1)
Leads in_word b d k closed = ⊥
Leads closed b d k in_word = ⊥
Leads closed b d k fresh = (b ≡ comma) × (0 < d) × (k ≡ d)
Leads closed b d k closed = (b ≡ closing) × (d ≡ k + 1)

-- past the byte at a place, with k brackets open after it, or the limit that is passed there
abbrev pub PastRead : Cursor → ℕ → Result Cursor Fault → Type 0
PastRead c k (Ok e) = Further c e × (e.depth ≡ k) × ((p : Part) (a m : Mode) (ns : List Named) → Leads a (byte_of c) c.depth k m → reads p a ns c ≡ reads p m ns e)
PastRead c k (Err x) = (p : Part) (a m : Mode) (ns : List Named) → Leads a (byte_of c) c.depth k m → reads p a ns c ≡ unlawful x

-- to the end of a word
abbrev pub WordRead : Cursor → Result Cursor Fault → Type 0
WordRead c (Ok e) = Further c e × (e.depth ≡ c.depth) × (continues (byte_of e) ≡ false) × ((p : Part) (ns : List Named) → reads p fresh ns c ≡ reads p in_word ns e)
WordRead c (Err x) = (p : Part) (ns : List Named) → reads p fresh ns c ≡ unlawful x

-- to the end of a name or of arguments, where k brackets are open
abbrev pub NameRead : Cursor → ℕ → Result Cursor Fault → Type 0
NameRead c k (Ok e) = Further c e × (e.depth ≡ k) × ((p : Part) (ns : List Named) → reads p fresh ns c ≡ reads p closed ns e)
NameRead c k (Err x) = (p : Part) (ns : List Named) → reads p fresh ns c ≡ unlawful x

-- past the byte b, outside of names, or the fault there
abbrev pub Expected : Cursor → ℕ → Result Cursor Fault → Type 0
Expected c b (Ok e) = (e.line ≡ c.line) × (e.pos ≡ c.pos + 1) × (c.pos < length c.line.now) × (byte_of c ≡ b)
Expected c b (Err x) = (x ≡ misfit c.line.now c.pos 0) × (byte_of c ≢ b)

-- past what parts the name that ends at a place from the next one, or the end of the line
abbrev pub NextRead : Part → Cursor → Result (Option ℕ) Fault → Type 0
NextRead p c (Ok None) = (m : Memory) → onward c.line.now c.pos (in_name p closed 0) m ≡ lawful (all_names m)
NextRead p c (Ok (Some j)) = (c.pos < j) × (j ≤ length c.line.now) × ((m : Memory) → onward c.line.now c.pos (in_name p closed 0) m ≡ onward c.line.now j (in_name base fresh 0) (begun (j + 1) (ended m)))
NextRead p c (Err x) = (m : Memory) → onward c.line.now c.pos (in_name p closed 0) m ≡ unlawful x

-- a comment holds no names
abbrev pub CommentRead : Outcome → Result (Unit {0}) Fault → Type 0
CommentRead o (Ok u) = o ≡ lawful []
CommentRead o (Err x) = o ≡ unlawful x

-- whether a line is lawful, or its fault
abbrev pub verdict : Outcome → Result (Unit {0}) Fault
verdict (lawful ns) = Ok tt
verdict (unlawful x) = Err x
