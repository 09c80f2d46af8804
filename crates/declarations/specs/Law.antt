-- The law over every history of a book, in the words of names, links, paths and loops.
use Rattle.std.specs.Prelude.{◌≡◌, ℕ, ◌*◌, ◌≤◌, Bool, List, ◌∷◌, ◌++◌, length, take, Some, Ok, Err, Decides}
use Rattle.descent.specs.declared.link.Link.{Link}
use Rattle.descent.specs.Answers.{Same, Agree}
use Rattle.descent.specs.Links.{Linked, Descends}
use Rattle.descent.specs.Loops.{LoopFree}
use Rattle.descent.specs.Trims.{Trimmed}
use Rattle.chains.specs.Places.{Places}
use Rattle.rows.specs.KeptEntries.{marked}
use Rattle.settling.specs.declared.outcome.Settled.{Settled}
use Rattle.settling.specs.declared.outcome.Unsettled.TheVariants.{Loop as LoopFound}
use Rattle.names.specs.Finding.{number_in}
use Rattle.register.specs.Entries.{Entries}
use Rattle.declarations.specs.Histories.{Event, settles, asks, History, Kept, moment_after, Setup, HasLoop, Right}

-- the links in force after a history
abbrev pub links_after : History → List Link
links_after h = (moment_after h).force.links

-- the types of the two names are one, or a path of links leads up from the first to the second
abbrev pub DescendsByName : Entries → List ℕ → List ℕ → Type 0
DescendsByName e first second =
    (a b : ℕ) × (number_in e.names first ≡ Some a) × (number_in e.names second ≡ Some b) × Descends e.links a b

-- each call was answered as its questions say, judged from what was in force before it; an accepted ask said yes exactly on
-- descent by the links in force; a settle refused for a loop had one, and an accepted one none
pub record EachCallIsAnsweredAsItsQuestionsSay (k : Setup) (h : History) : Type 0 where
  pub answers : (later before : History) (e : Event) → h ≡ later ++ (e ∷ before) → Right k (moment_after before) e
  pub an_ask_says_yes_exactly_on_descent :
      (later before : History) (first second : List ℕ) (said : Bool) → h ≡ later ++ (asks first second (Ok said) ∷ before) →
      Decides said (DescendsByName (moment_after before).force first second)
  pub a_settle_refused_for_a_loop_had_one :
      (later before : History) (loop scratch : ℕ) (given : Places) (kept : List ℕ) (size : ℕ) → h ≡ later ++ (settles loop scratch given kept (Err (LoopFound size)) ∷ before) →
      HasLoop (links_after before) size
  pub an_accepted_settle_had_none :
      (later before : History) (loop scratch : ℕ) (given : Places) (kept : List ℕ) (s : Settled) → h ≡ later ++ (settles loop scratch given kept (Ok s) ∷ before) →
      LoopFree (links_after before)

-- the links that an accepted settle kept, of those in force
pub record LeastWithTheDescent (links : List Link) (kept : List ℕ) (s : Settled) : Type 0 where
  pub same_descent : Same (Descends (marked kept links)) (Descends links)
  pub least : (others : List Link) → Same (Descends others) (Descends links) → (a b : ℕ) → Linked (marked kept links) a b → Linked others a b
  pub counted : s.kept ≡ length (marked kept links)
  pub few : s.kept ≤ s.chains * s.types

-- they have the descent of all links then in force, and every set of links with that descent contains them; their number,
-- which the settle answers, is at most its chains times its types
abbrev pub KeptLinksAreTheLeastWithTheDescent : History → Type 0
KeptLinksAreTheLeastWithTheDescent h =
    (later before : History) (loop scratch : ℕ) (given : Places) (kept : List ℕ) (s : Settled) → h ≡ later ++ (settles loop scratch given kept (Ok s) ∷ before) →
    LeastWithTheDescent (links_after before) kept s

-- where the book ends settled, an accepted trim of its links by an answerer that means their descent writes for each the
-- entry that the last accepted settle wrote, and answers that settle's number of kept links
abbrev pub TrimmingGivesWhatWasKept : {S : Type 0} → (S → ℕ) → (S → ℕ → ℕ → Type 0) → History → Type 0
TrimmingGivesWhatWasKept {S} count relates h =
    (kept : Kept) → (moment_after h).settled ≡ Some kept →
    (s : S) → Agree (count s) (relates s) (Descends (links_after h)) →
    (before after : List ℕ) (number : ℕ) → Trimmed (links_after h) (count s) (relates s) before after (Ok number) →
    (take (length (links_after h)) after ≡ kept.entries) × (number ≡ kept.number)

-- the law of a history, with an answerer's meaning
pub record Law {S : Type 0} (count : S → ℕ) (relates : S → ℕ → ℕ → Type 0) (k : Setup) (h : History) : Type 0 where
  pub each_call_is_answered_as_its_questions_say : EachCallIsAnsweredAsItsQuestionsSay k h
  pub kept_links_are_the_least_with_the_descent : KeptLinksAreTheLeastWithTheDescent h
  pub trimming_gives_what_was_kept : TrimmingGivesWhatWasKept count relates h
