-- General facts about links, paths, descent and ranks.
use Rattle.std.specs.Prelude.{◌≡◌, ℕ, ◌<◌, Bool, ◌⊎◌, List, length, take, Some, Ok, Decides, Option, slice_index, slice_index_or}
use Rattle.descent.specs.declared.link.Link.{Link}
use Rattle.descent.specs.Answers.{Same, Agree}
use Rattle.descent.specs.Computed.{Computes, descends, flags, nearest}
use Rattle.descent.specs.Kept.{Kept, KeepsExactly}
use Rattle.descent.specs.Links.{no_link, link, Linked, Path, Descends, Within}
use Rattle.descent.specs.Loops.{Loop, LoopFree, Rising}
use Rattle.descent.specs.Nearests.{Common, Nearest}
use Rattle.descent.specs.Trims.{Implied, Flagged, Trimmed}

abbrev pub DescentIsReflexiveAndTransitive : Type 0
DescentIsReflexiveAndTransitive =
    (links : List Link) → ((a : ℕ) → Descends links a a) × ((a b c : ℕ) → Descends links a b → Descends links b c → Descends links a c)

-- two paths that follow each other join; a path is a link, or a link and a path, or a path and a link
abbrev pub PathsSplitAndJoin : Type 0
PathsSplitAndJoin =
    (links : List Link) →
    ((a b c : ℕ) → Path links a b → Path links b c → Path links a c)
    × ((a c : ℕ) → Path links a c → Linked links a c ⊎ ((b : ℕ) × Linked links a b × Path links b c))
    × ((a c : ℕ) → Path links a c → Linked links a c ⊎ ((b : ℕ) × Path links a b × Linked links b c))

abbrev pub Antisymmetric : (ℕ → ℕ → Type 0) → Type 0
Antisymmetric R = (a b : ℕ) → R a b → R b a → a ≡ b

abbrev pub RisingRanksRuleOutLoops : Type 0
RisingRanksRuleOutLoops =
    (links : List Link) (rank : ℕ → ℕ) → Rising links rank →
    LoopFree links × ((types : List ℕ) → Loop links types → ⊥) × Antisymmetric (Descends links)

-- no path leads from a type back to itself exactly where there is no loop
abbrev pub LoopFreeMeansNoLoop : Type 0
LoopFreeMeansNoLoop =
    (links : List Link) → (LoopFree links → (types : List ℕ) → Loop links types → ⊥) × (((types : List ℕ) → Loop links types → ⊥) → LoopFree links)

abbrev pub LoopFreeLinksHaveRisingRanks : Type 0
LoopFreeLinksHaveRisingRanks = (links : List Link) → LoopFree links → (rank : ℕ → ℕ) × Rising links rank

abbrev pub KeptLinksHaveTheSameDescent : Type 0
KeptLinksHaveTheSameDescent = (links kept : List Link) → LoopFree links → KeepsExactly links kept → Same (Descends kept) (Descends links)

abbrev pub SameDescentContainsTheKeptLinks : Type 0
SameDescentContainsTheKeptLinks =
    (links others : List Link) → LoopFree links → Same (Descends others) (Descends links) → (a b : ℕ) → Kept links a b → Linked others a b

-- a link is kept exactly where no other base of its type descends from its end
abbrev pub KeptByTheOtherBases : Type 0
KeptByTheOtherBases =
    (links : List Link) (rank : ℕ → ℕ) → Rising links rank → (a b : ℕ) → Linked links a b →
    (Kept links a b → Implied links (Descends links) (link a b) → ⊥) × ((Implied links (Descends links) (link a b) → ⊥) → Kept links a b)

-- by descent through links without a loop, trim flags exactly the kept links by 1
abbrev pub TrimByDescentKeepsTheKeptLinks : Type 0
TrimByDescentKeepsTheKeptLinks =
    (links : List Link) (flags : List ℕ) → LoopFree links → Flagged links (Descends links) (length links) flags → (k : ℕ) → k < length links →
    (slice_index flags k ≡ 1 → Kept links (slice_index_or links k no_link).from (slice_index_or links k no_link).to) × (Kept links (slice_index_or links k no_link).from (slice_index_or links k no_link).to → slice_index flags k ≡ 1)

-- two answerers whose relations agree on the types of the first trim links alike: the same flags, and the same number of ones
abbrev pub SameRelationGivesSameFlags : {S U : Type 0} → (S → ℕ) → (S → ℕ → ℕ → Type 0) → (U → ℕ) → (U → ℕ → ℕ → Type 0) → Type 0
SameRelationGivesSameFlags {S} {U} count relates count' relates' =
    (s : S) (u : U) → Agree (count s) (relates s) (relates' u) →
    (links : List Link) (before after before' after' : List ℕ) (kept kept' : ℕ) →
    Trimmed links (count s) (relates s) before after (Ok kept) → Trimmed links (count' u) (relates' u) before' after' (Ok kept') →
    (take (length links) after ≡ take (length links) after') × (kept ≡ kept')

-- where two types have a common base they have a nearest one, and the computed one is it
abbrev pub NearestExists : {S : Type 0} → (S → ℕ) → (S → ℕ → ℕ → Type 0) → Type 0
NearestExists {S} count relates =
    (s : S) (holds : ℕ → ℕ → Bool) → Computes (count s) holds (relates s) → (a b c : ℕ) → a < count s → b < count s → Common (count s) (relates s) a b c →
    (m : ℕ) × (nearest (count s) holds a b ≡ Some m) × Nearest (count s) (relates s) a b (Some m)

abbrev pub NearestIsOne : {S : Type 0} → (S → ℕ) → (S → ℕ → ℕ → Type 0) → Type 0
NearestIsOne {S} count relates = (s : S) (a b : ℕ) (x y : Option ℕ) → Nearest (count s) (relates s) a b x → Nearest (count s) (relates s) a b y → x ≡ y

abbrev pub ComputedDescentIsDescent : Type 0
ComputedDescentIsDescent = (links : List Link) (a b : ℕ) → Decides (descends links a b) (Descends links a b)

-- the computed flags are those of the relation
abbrev pub ComputedFlagsAreTheFlags : {S : Type 0} → (S → ℕ) → (S → ℕ → ℕ → Type 0) → Type 0
ComputedFlagsAreTheFlags {S} count relates =
    (s : S) (holds : ℕ → ℕ → Bool) → Computes (count s) holds (relates s) → (links : List Link) → Within links (count s) → Flagged links (relates s) (length links) (flags links holds)
