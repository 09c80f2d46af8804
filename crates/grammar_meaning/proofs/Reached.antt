-- Each byte that does not leave the reading stuck keeps what has been read in shape.
use Rattle.std.proofs.Common.{◌≡◌, ℕ, suc, ◌+◌, Bool, true, false, cond, eqb, List, [], ◌∷◌, ◌++◌, length, sym, refl, ap, ◌∙◌, subst, ⊎_elim, append_assoc, append-nil}
use Rattle.std.specs.Char.{is_ascii_digit, is_ascii_alphabetic}
use Rattle.std.proofs.lemmas.Bool.{both_ways}
use Rattle.std.proofs.lemmas.List.{length_push}
use Rattle.grammar.specs.Bytes.{printable, begins, continues, space, hash, comma, less, opening, closing}
use Rattle.grammar.specs.Grammar.{named, Printable, none, also}
use Rattle.grammar_meaning.specs.BadPlaces.{Declares}
use Rattle.grammar.specs.Reading.{Part, first, base, Mode, fresh, in_word, closed, State, step, Memory, nothing, begun, longer, ended, remember}
use Rattle.grammar_meaning.proofs.Lists.{Level, level_same, level_opens, level_closes, level_append, level_word}
use Rattle.grammar_meaning.proofs.Moves.{Whole, Goes, hashed, started, noted, word_begins, word_goes_on, opens, argument_ends, closes, first_ends, base_ends, signs, sign_ends, gap_ends, leads}
use Rattle.grammar_meaning.proofs.Unfinished.{Unfinished, word_read, word-longer, bracket_opened, whole_read, comma_read, bracket_closed}
use Rattle.grammar_meaning.proofs.Shapes.{Headed, headed_sign, headed_next, Declaring, Inside, Between, Shape}

one_of_three : (x y z : Bool) → cond x true z ≡ true → cond x true (cond y true z) ≡ true
one_of_three true y z e = refl
one_of_three false true z e = refl
one_of_three false false z e = e

pub begins-continues : (b : ℕ) → begins b ≡ true → continues b ≡ true
begins-continues b e = one_of_three (is_ascii_alphabetic b) (is_ascii_digit b) (eqb b 95) e

still_declares : (front : List ℕ) (b : ℕ) → Declaring front → Declaring (front ++ (b ∷ []))
still_declares front b h rest = subst Declares (sym (append_assoc front (b ∷ []) rest)) (h (b ∷ rest))

first_byte : (b : ℕ) → begins b ≡ true → Inside first in_word 0 (b ∷ []) (longer b nothing)
first_byte b e = record {
  before = [];
  splits = refl;
  outside = (refl, refl);
  begins_at = refl;
  unfinished = word_read 0 b [] refl e;
  depth = level_word [] 0 b (begins-continues b e) refl;
  level = refl;
  declaring = λ rest q. both_ways (begins b) (ap begins q) e;
}

-- the name goes on by a byte
module _ (p : Part) (m : Mode) (d : ℕ) (front : List ℕ) (memory : Memory) (b : ℕ) (h : Inside p m d front memory) where
  name_longer : (k : Mode) (e : ℕ) → Unfinished k e (memory.kept ++ (b ∷ [])) → Level (memory.kept ++ (b ∷ [])) e → Inside p k e (front ++ (b ∷ [])) (longer b memory)
  name_longer k e u l = record {
    before = h.before;
    splits = ap (λ f. f ++ (b ∷ [])) h.splits ∙ append_assoc h.before memory.kept (b ∷ []);
    outside = h.outside;
    begins_at = h.begins_at;
    unfinished = u;
    depth = l;
    level = h.level;
    declaring = still_declares front b h.declaring;
  }

  -- the name is over
  name_over : (gap : List ℕ) → eqb b opening ≡ false → eqb b closing ≡ false → d ≡ 0 → Headed ((front ++ (b ∷ [])) ++ gap) (ended memory).names → Between gap (front ++ (b ∷ [])) (ended memory)
  name_over gap o c z headed = record {
    headed = headed;
    nothing_kept = refl;
    level = level_same front 0 b o c (subst (λ f. Level f 0) (sym h.splits) (level_append h.before memory.kept 0 h.level (subst (Level memory.kept) z h.depth)));
    declaring = still_declares front b h.declaring;
  }

-- between two names
gap_read : (gap front : List ℕ) (memory : Memory) (b : ℕ) → eqb b opening ≡ false → eqb b closing ≡ false → Between (b ∷ gap) front memory → Between gap (front ++ (b ∷ [])) memory
gap_read gap front memory b o c h = record {
  headed = subst (λ f. Headed f memory.names) (sym (append_assoc front (b ∷ []) gap)) h.headed;
  nothing_kept = h.nothing_kept;
  level = level_same front 0 b o c h.level;
  declaring = still_declares front b h.declaring;
}

next_begins : (front : List ℕ) (memory : Memory) → Between (space ∷ []) front memory → Inside base fresh 0 (front ++ (space ∷ [])) (begun (length front + 1 + 1) memory)
next_begins front memory h = record {
  before = front ++ (space ∷ []);
  splits = sym (append-nil (front ++ (space ∷ [])));
  outside = h.headed;
  begins_at = ap (λ n. n + 1) (sym (length_push front space));
  unfinished = refl;
  depth = refl;
  level = level_same front 0 space refl refl h.level;
  declaring = still_declares front space h.declaring;
}

first-over : (front : List ℕ) (memory : Memory) (m : Mode) → Whole m → Inside first m 0 front memory → Headed ((front ++ (space ∷ [])) ++ (less ∷ space ∷ [])) (ended memory).names
first-over front memory m w h =
    let n = memory.kept in
    let whole : front ≡ n = h.splits ∙ ap (λ f. f ++ n) h.outside.0 in
    let from : memory.from ≡ 1 = h.begins_at ∙ ap (λ f. length f + 1) h.outside.0 in
    let names : (ended memory).names ≡ named 1 n ∷ [] = ap (λ ns. ns ++ (named memory.from n ∷ [])) h.outside.1 ∙ ap (λ c. named c n ∷ []) from in
    subst (λ ns. Headed ((front ++ (space ∷ [])) ++ (less ∷ space ∷ [])) ns) (sym names)
    (subst (λ f. Headed f (named 1 n ∷ [])) (ap (λ f. f ++ (space ∷ less ∷ space ∷ [])) (sym whole) ∙ sym (append_assoc front (space ∷ []) (less ∷ space ∷ [])))
    (headed_sign n (whole_read 0 n w h.unfinished)))

base-over : (front : List ℕ) (memory : Memory) (m : Mode) → Whole m → Inside base m 0 front memory → Headed ((front ++ (comma ∷ [])) ++ (space ∷ [])) (ended memory).names
base-over front memory m w h =
    let n = memory.kept in
    let place : h.before ++ (n ++ (comma ∷ space ∷ [])) ≡ (front ++ (comma ∷ [])) ++ (space ∷ []) =
    sym (append_assoc h.before n (comma ∷ space ∷ [])) ∙ ap (λ f. f ++ (comma ∷ space ∷ [])) (sym h.splits) ∙ sym (append_assoc front (comma ∷ []) (space ∷ [])) in
    subst (λ f. Headed f (ended memory).names) place
    (subst (λ c. Headed (h.before ++ (n ++ (comma ∷ space ∷ []))) (memory.names ++ (named c n ∷ []))) (sym h.begins_at)
    (headed_next h.before n memory.names h.outside (whole_read 0 n w h.unfinished)))

print_more : {bs : List ℕ} (b : ℕ) → printable b ≡ true → Printable bs → Printable (bs ++ (b ∷ []))
print_more b e none = also e none
print_more b e (also f r) = also f (print_more b e r)

pub shape_on : {s t : State} {b : ℕ} (front : List ℕ) (m : Memory) → Goes s b t → Shape front s m → Shape (front ++ (b ∷ [])) t (remember t m (length front + 1) b)
shape_on front m hashed h = record { rest = []; splits = ap (λ f. f ++ (hash ∷ [])) h.0; prints = none; blank = h.1 }
shape_on {b} front m (started e) h =
    subst (λ f. Inside first in_word 0 (f ++ (b ∷ [])) (longer b m)) (sym h.0) (subst (λ x. Inside first in_word 0 (b ∷ []) (longer b x)) (sym h.1) (first_byte b e))
shape_on {b} front m (noted e) h = record { rest = h.rest ++ (b ∷ []); splits = ap (λ f. f ++ (b ∷ [])) h.splits; prints = print_more b e h.prints; blank = h.blank }
shape_on {b} front m (word_begins {p} {d} e) h =
    name_longer p fresh d front m b h in_word d (word_read d b m.kept h.unfinished e) (level_word m.kept d b (begins-continues b e) h.depth)
shape_on {b} front m (word_goes_on {p} {d} e) h =
    name_longer p in_word d front m b h in_word d (word-longer d b m.kept h.unfinished e) (level_word m.kept d b e h.depth)
shape_on front m (opens {p} {d}) h =
    name_longer p in_word d front m opening h fresh (suc d) (bracket_opened d m.kept h.unfinished) (level_opens m.kept d h.depth)
shape_on front m (argument_ends {p} {m = k} {d} w) h =
    name_longer p k (suc d) front m comma h fresh (suc d) (comma_read d m.kept (whole_read (suc d) m.kept w h.unfinished)) (level_same m.kept (suc d) comma refl refl h.depth)
shape_on front m (closes {p} {m = k} {d} w) h =
    name_longer p k (suc d) front m closing h closed d (bracket_closed d m.kept (whole_read (suc d) m.kept w h.unfinished)) (level_closes m.kept d h.depth)
shape_on front m (first_ends {m = k} w) h = name_over first k 0 front m space h (less ∷ space ∷ []) refl refl refl (first-over front m k w h)
shape_on front m (base_ends {m = k} w) h = name_over base k 0 front m comma h (space ∷ []) refl refl refl (base-over front m k w h)
shape_on front m signs h = gap_read (space ∷ []) front m less refl refl h
shape_on front m sign_ends h = next_begins front m h
shape_on front m gap_ends h = next_begins front m h

pub shape_step : (front : List ℕ) (s : State) (m : Memory) (b : ℕ) → Shape front s m → Shape (front ++ (b ∷ [])) (step s b) (remember (step s b) m (length front + 1) b)
shape_step front s m b h =
    ⊎_elim (λ e. subst (λ t. Shape (front ++ (b ∷ [])) t (remember t m (length front + 1) b)) (sym e) tt) (λ g. shape_on front m g h) (leads s b)
