-- What rows and kept entries mean, in the subject's own words.
use Rattle.std.specs.Prelude.{◌≡◌, ℕ, ◌+◌, ◌*◌, ◌<◌, ◌≤◌, List, length, take, Ok, slice_index}
use Rattle.descent.specs.declared.link.Link.{Link}
use Rattle.descent.specs.Answers.{Same, Agree}
use Rattle.descent.specs.Kept.{Kept, KeepsExactly}
use Rattle.descent.specs.Links.{Linked, Descends}
use Rattle.descent.specs.Loops.{LoopFree}
use Rattle.descent.specs.Trims.{Trimmed}
use Rattle.chains.specs.Chains.{Chained}
use Rattle.chains.specs.Ranked.{Ranked}
use Rattle.rows.specs.Rows.{entry_of, rows_of, Lowest}
use Rattle.rows.specs.KeptEntries.{kept_of, kept_count, kept_links, Different}

-- the row of a starts at place a × chains
abbrev pub RowsStartAtTheirPlaces : Type 0
RowsStartAtTheirPlaces =
    (n : ℕ) (links : List Link) (chains positions : List ℕ) (count : ℕ) →
    (length (rows_of n links chains positions count) ≡ n * count)
    × ((a c : ℕ) → a < n → c < count → slice_index (rows_of n links chains positions count) (a * count + c) ≡ entry_of n links chains positions a c)

-- the entry of a for a chain is the lowest position there from whose type a descends, or 65,535 where there is none
abbrev pub RowEntriesAreLowest : Type 0
RowEntriesAreLowest =
    (n : ℕ) (links : List Link) (order rank chains positions : List ℕ) (count : ℕ) → n ≤ 65535 → Ranked n links order rank → Chained n links chains positions count →
    (a c : ℕ) → Lowest n chains positions (Descends links a) c (entry_of n links chains positions a c)

-- a descends from b exactly where the row entry of a at b's chain is at most b's position
abbrev pub RowEntriesAnswerDescent : Type 0
RowEntriesAnswerDescent =
    (n : ℕ) (links : List Link) (order rank chains positions : List ℕ) (count : ℕ) → n ≤ 65535 → Ranked n links order rank → Chained n links chains positions count →
    (a b : ℕ) → a < n → b < n →
    (Descends links a b → slice_index (rows_of n links chains positions count) (a * count + slice_index chains b) ≤ slice_index positions b)
    × (slice_index (rows_of n links chains positions count) (a * count + slice_index chains b) ≤ slice_index positions b → Descends links a b)

-- the links with entry 1 are those that no longer path replaces; they have the descent of all, and every set of links with that descent contains them
pub record KeptEntriesAreTheReduction : Type 0 where
  pub exactly : (links : List Link) → KeepsExactly links (kept_links links)
  pub same : (links : List Link) → LoopFree links → Same (Descends (kept_links links)) (Descends links)
  pub least : (links others : List Link) → LoopFree links → Same (Descends others) (Descends links) → (a b : ℕ) → Linked (kept_links links) a b → Linked others a b
  pub number : (links : List Link) → length (kept_links links) ≡ kept_count links

-- a type has at most one kept link into each chain, and so there are at most chains × types
pub record KeptLinksAreFew : Type 0 where
  pub one_in_a_chain : (n : ℕ) (links : List Link) (order rank chains positions : List ℕ) (count : ℕ) → Ranked n links order rank → Chained n links chains positions count →
      (a b d : ℕ) → Kept links a b → Kept links a d → slice_index chains b ≡ slice_index chains d → b ≡ d
  pub few : (n : ℕ) (links : List Link) (order rank chains positions : List ℕ) (count : ℕ) → Ranked n links order rank → Chained n links chains positions count →
      Different links → kept_count links ≤ count * n

-- a trim by an answerer whose relation is the descent of the links writes their kept entries and answers their number
abbrev pub TrimWritesTheKeptEntries : {S : Type 0} → (S → ℕ) → (S → ℕ → ℕ → Type 0) → Type 0
TrimWritesTheKeptEntries {S} count relates =
    (s : S) (links : List Link) → LoopFree links → Agree (count s) (relates s) (Descends links) →
    (before after : List ℕ) (kept : ℕ) → Trimmed links (count s) (relates s) before after (Ok kept) →
    (take (length links) after ≡ kept_of links) × (kept ≡ kept_count links)
