-- A front of a line and the state that it leads to: whether it is viable, opens a ninth bracket, or has a 65th byte of a name.
use Rattle.std.proofs.Common.{◌≡◌, ℕ, ◌+◌, ◌<◌, ◌≤◌, true, false, List, [], ◌∷◌, ◌++◌, length, sym, refl, ap, ◌∙◌, subst, append_assoc, append-nil, arith, length-append}
use Rattle.std.proofs.lemmas.Bool.{both_ways}
use Rattle.grammar.specs.Bytes.{opening, closing}
use Rattle.grammar.specs.Grammar.{Named, named, no_more, word, Name, plain, last_base, Line, empty, bare}
use Rattle.grammar.specs.Grammar.{comment as comment-line}
use Rattle.grammar_meaning.specs.Limits.{count}
use Rattle.grammar_meaning.specs.BadPlaces.{Viable, Before, line_start, sign, next, Declares, NinthOpen, SixtyFifth}
use Rattle.grammar.specs.Reading.{Part, first, base, Mode, State, start, comment, in_name, spaced, signed, parted, stuck, step, Memory, nothing, remember, opened, is_stuck, lawful}
use Rattle.grammar_meaning.proofs.Lists.{Level}
use Rattle.grammar_meaning.proofs.Unfinished.{completes}
use Rattle.grammar_meaning.proofs.Shapes.{Headed, headed_sign, headed_next, Inside, Between, Shape}
use Rattle.grammar_meaning.proofs.Reached.{shape_step}
use Rattle.grammar_meaning.proofs.Endings.{front_level}
use Rattle.grammar_meaning.proofs.Freely.{freely, line_read}
use Rattle.grammar_meaning.proofs.Accepted.{not_stuck, next_column}
use Rattle.grammar_meaning.proofs.Latest.{since, from_on, latest}

-- a front leads the reading, with the limits set aside, to a state and to what is remembered there
pub record Read (front : List ℕ) (s : State) (m : Memory) : Type 0 where
  pub shape : Shape front s m
  pub behind : m.from ≤ length front + 1
  pub on : (rest : List ℕ) → freely start nothing 1 (front ++ rest) ≡ freely s m (length front + 1) rest

pub read_start : Read [] start nothing
read_start = record { shape = (refl, refl); behind = omega arith; on = λ rest. refl }

pub read_step : (front : List ℕ) (s : State) (m : Memory) (b : ℕ) → Read front s m → Read (front ++ (b ∷ [])) (step s b) (remember (step s b) m (length front + 1) b)
read_step front s m b h =
    let t = step s b in
    let k = remember t m (length front + 1) b in
    record {
      shape = shape_step front s m b h.shape;
      behind = subst (λ c. k.from ≤ c) (next_column front b) (from_on t m (length front + 1) b h.behind);
      on = λ rest. ap (freely start nothing 1) (append_assoc front (b ∷ []) rest) ∙ h.on (b ∷ rest) ∙ ap (λ c. freely t k c rest) (next_column front b);
    }

pub line_on : {front : List ℕ} {s : State} {m : Memory} {names : List Named} (rest : List ℕ) → Read front s m → Line (front ++ rest) names → freely s m (length front + 1) rest ≡ lawful names
line_on rest h l = sym (h.on rest) ∙ line_read l

pub viable_unstuck : {front : List ℕ} {s : State} {m : Memory} → Read front s m → Viable front → is_stuck s ≡ false
viable_unstuck {front} {s} {m} h v = not_stuck s m (length front + 1) v.0 v.1 (line_on v.0 h v.2)

-- a name after what stands before it
name_after : (p : Part) {k : Mode} {d : ℕ} {front : List ℕ} {m : Memory} → Inside p k d front m → (rest : List ℕ) → Name (m.kept ++ rest) → (names : List Named) × Line (front ++ rest) names
name_after first {front} {m} h rest x =
    let all = m.kept ++ rest in
    (named 1 all ∷ [], subst (λ l. Line l (named 1 all ∷ [])) (ap (λ f. f ++ rest) (sym (h.splits ∙ ap (λ f. f ++ m.kept) h.outside.0))) (bare x))
name_after base {front} {m} h rest x =
    let all = m.kept ++ rest in
    let last = named (length h.before + 1) all ∷ [] in (
      m.names ++ last,
      subst (λ l. Line l (m.names ++ last)) (sym (append_assoc h.before m.kept rest) ∙ ap (λ f. f ++ rest) (sym h.splits)) (h.outside.makes all last (last_base x)),
    )

gap_viable : (gap front : List ℕ) (m : Memory) → Between gap front m → Viable front
gap_viable gap front m h =
    let a = 65 ∷ [] in
    let last = named (length (front ++ gap) + 1) a ∷ [] in
    (gap ++ a, m.names ++ last, subst (λ l. Line l (m.names ++ last)) (append_assoc front gap a) (h.headed.makes a last (last_base (plain (word refl no_more)))))

pub viable : (front : List ℕ) (s : State) (m : Memory) → is_stuck s ≡ false → Shape front s m → Viable front
viable front start m n h = ([], [], subst (λ l. Line (l ++ []) []) (sym h.0) empty)
viable front comment m n h = ([], [], subst (λ l. Line l []) (sym (append-nil front ∙ h.splits)) (comment-line h.prints))
viable front (in_name p k d) m n h =
    let more = completes k d m.kept h.unfinished in
    let line = name_after p h more.0 more.1 in
    (more.0, line.0, line.1)
viable front spaced m n h = gap_viable _ front m h
viable front signed m n h = gap_viable _ front m h
viable front parted m n h = gap_viable _ front m h
viable front stuck m n h = absurd (both_ways true n refl)

-- the ninth bracket
pub ninth_opened : (front : List ℕ) (s : State) (m : Memory) → is_stuck s ≡ false → Shape front s m → NinthOpen front → opened s ≡ 9
ninth_opened front start m n h x = let none : count opening [] ≡ count closing [] + 9 = subst (λ f. count opening f ≡ count closing f + 9) h.0 x.2 in omega arith
ninth_opened front comment m n h x = absurd (subst Declares h.splits x.1 refl)
ninth_opened front (in_name p k d) m n h x = omega (arith, front_level h, x.2)
ninth_opened front spaced m n h x = omega (arith, h.level, x.2)
ninth_opened front signed m n h x = omega (arith, h.level, x.2)
ninth_opened front parted m n h x = omega (arith, h.level, x.2)
ninth_opened front stuck m n h x = absurd (both_ways true n refl)

pub opened_ninth : (front : List ℕ) (s : State) (m : Memory) → is_stuck s ≡ false → Shape front s m → opened s ≡ 9 → NinthOpen front
opened_ninth front (in_name p k d) m n h e = (viable front (in_name p k d) m n h, subst Declares (append-nil front) (h.declaring []), omega (arith, front_level h))
opened_ninth front start m n h e = absurd (omega arith)
opened_ninth front comment m n h e = absurd (omega arith)
opened_ninth front spaced m n h e = absurd (omega arith)
opened_ninth front signed m n h e = absurd (omega arith)
opened_ninth front parted m n h e = absurd (omega arith)
opened_ninth front stuck m n h e = absurd (omega arith)

-- what stands before a base
headed : {before : List ℕ} → Before before → (before ≡ [] → ⊥) → (names : List Named) × Headed before names
headed line_start n = absurd (n refl)
headed (sign {n = n} x) z = (named 1 n ∷ [], headed_sign n x)
headed (next {front} {n = n} b z x) y =
    let h = headed b z in
    (h.0 ++ (named (length front + 1) n ∷ []), headed_next front n h.0 h.1 x)

-- the line that a name makes after what may stand before it; the name is its last
last_of : {before n : List ℕ} → Before before → Name n → (names : List Named) × Line (before ++ n) (names ++ (named (length before + 1) n ∷ []))
last_of line_start x = ([], bare x)
last_of {n} (sign {n = k} y) x = (named 1 k ∷ [], (headed_sign k y).makes n _ (last_base x))
last_of {n} (next {front} {n = k} b z y) x =
    let h = headed b z in
    (h.0 ++ (named (length front + 1) k ∷ []), (headed_next front k h.0 h.1 y).makes n _ (last_base x))

-- the 65th byte of a name
long_line : {front : List ℕ} (x : SixtyFifth front) → (names : List Named) × Line (front ++ x.rest) (names ++ (named (length x.before + 1) (x.part ++ x.rest) ∷ []))
long_line {front} x =
    let l = last_of x.place x.name in
    (l.0, subst (λ k. Line k (l.0 ++ (named (length x.before + 1) (x.part ++ x.rest) ∷ []))) (sym (append_assoc x.before x.part x.rest) ∙ ap (λ f. f ++ x.rest) (sym x.splits)) l.1)

pub long_viable : {front : List ℕ} → SixtyFifth front → Viable front
long_viable x = let l = long_line x in (x.rest, l.0 ++ (named (length x.before + 1) (x.part ++ x.rest) ∷ []), l.1)

pub long_kept : (front : List ℕ) (s : State) (m : Memory) → Read front s m → SixtyFifth front → 64 < length m.kept
long_kept front s m h x = by_state s h.shape late
  where
    width : length front ≡ length x.before + 65
    width = ap length x.splits ∙ length-append x.before x.part ∙ ap (λ k. length x.before + k) x.long

    late : since s m (length front + 1) ≤ length x.before + 1
    late =
        let l = long_line x in
        latest l.0 (named (length x.before + 1) (x.part ++ x.rest)) x.rest s m (length front + 1) h.behind (line_on x.rest h l.1)

    by_state : (s : State) → Shape front s m → since s m (length front + 1) ≤ length x.before + 1 → 64 < length m.kept
    by_state start g l = let none : length front ≡ 0 = ap length g.0 in absurd (omega (arith, width))
    by_state comment g l = absurd (omega (arith, width))
    by_state (in_name p k d) g l = omega (arith, width, g.begins_at, ap length g.splits, length-append g.before m.kept)
    by_state spaced g l = absurd (omega (arith, width))
    by_state signed g l = absurd (omega (arith, width))
    by_state parted g l = absurd (omega (arith, width))
    by_state stuck g l = absurd (omega (arith, width))

-- a name of 65 bytes so far
pub record Long (front : List ℕ) (d : ℕ) : Type 0 where
  pub sixty_fifth : SixtyFifth front
  pub level : Level front d

before-part : (p : Part) {k : Mode} {d : ℕ} {front : List ℕ} {m : Memory} (h : Inside p k d front m) → Before h.before
before-part first h = subst Before (sym h.outside.0) line_start
before-part base h = h.outside.place

too_short : (m : Memory) → m.kept ≡ [] → length m.kept ≡ 65 → ⊥
too_short m e l = omega (arith, ap length e)

pub kept_long : (front : List ℕ) (s : State) (m : Memory) → is_stuck s ≡ false → Shape front s m → length m.kept ≡ 65 → Long front (opened s)
kept_long front (in_name p k d) m n h l =
    let more = completes k d m.kept h.unfinished in
    record {
      sixty_fifth = record { before = h.before; part = m.kept; rest = more.0; splits = h.splits; place = before-part p h; name = more.1; long = l };
      level = front_level h;
    }
kept_long front start m n h l = absurd (too_short m (ap (λ x. x.kept) h.1) l)
kept_long front comment m n h l = absurd (too_short m (ap (λ x. x.kept) h.blank) l)
kept_long front spaced m n h l = absurd (too_short m h.nothing_kept l)
kept_long front signed m n h l = absurd (too_short m h.nothing_kept l)
kept_long front parted m n h l = absurd (too_short m h.nothing_kept l)
kept_long front stuck m n h l = absurd (both_ways true n refl)
