-- What settling answers, and what every table then holds.
use Rattle.std.specs.Prelude.{◌≡◌, ℕ, ◌*◌, ◌<◌, ◌≤◌, Bool, true, false, ◌||◌, List, ◌++◌, length, take, drop, replicate, Ok, Err, Result, nat_lt}
use Rattle.descent.specs.declared.link.Link.{Link}
use Rattle.descent.specs.Loops.{Loop}
use Rattle.order.specs.Order.{order_of}
use Rattle.rows.specs.KeptEntries.{kept_of, kept_count}
use Rattle.rows.specs.Rows.{rows_of}
use Rattle.settling.specs.declared.outcome.Settled.{Settled}
use Rattle.settling.specs.declared.outcome.Unsettled.{Unsettled}
use Rattle.settling.specs.declared.outcome.Unsettled.TheVariants.{ShortTable, Loop as LoopFound, ShortIndex}

-- the tables that settling writes
pub record Tables : Type 0 where
  pub order : List ℕ
  pub chain : List ℕ
  pub position : List ℕ
  pub kept : List ℕ
  pub index : List ℕ
  pub loop : List ℕ
  pub scratch : List ℕ

-- what a decomposer may give: types, links, order, chains, positions, number of chains
abbrev pub Giving : Type 1
Giving = ℕ → List Link → List ℕ → List ℕ → List ℕ → ℕ → Type 0

-- order, chain, position and loop need an entry for each type, scratch four, kept one for each link
abbrev pub short : ℕ → ℕ → Tables → Bool
short n links t =
    nat_lt (length t.order) n || (nat_lt (length t.chain) n || (nat_lt (length t.position) n
    || (nat_lt (length t.loop) n || (nat_lt (length t.scratch) (4 * n) || nat_lt (length t.kept) links))))

-- a value throughout
abbrev pub filled : ℕ → List ℕ → List ℕ
filled v table = replicate (length table) v

-- what a loop, and an index that is too short, leave
pub record Wiped (before after : Tables) : Type 0 where
  pub order : after.order ≡ filled 65535 before.order
  pub chain : after.chain ≡ filled 65535 before.chain
  pub position : after.position ≡ filled 65535 before.position
  pub kept : after.kept ≡ filled 65535 before.kept
  pub index : after.index ≡ filled 65535 before.index
  pub scratch : after.scratch ≡ filled 0 before.scratch

-- types are left without a rank; a loop is written to the front of the loop table
pub record FindsLoop (n : ℕ) (links : List Link) (before : Tables) (size : ℕ) (after : Tables) : Type 0 where
  pub unranked : length (order_of n links) < n
  pub written : Loop links (take size after.loop)
  pub bound : size ≤ n
  pub rest : drop size after.loop ≡ drop size before.loop
  pub wiped : Wiped before after

-- the decomposer gave more chains than the index has rows for
pub record NeedsIndex (Gives : Giving) (n : ℕ) (links : List Link) (before : Tables) (needed : ℕ) (after : Tables) : Type 0 where
  pub ranked : length (order_of n links) ≡ n
  pub chains : List ℕ
  pub positions : List ℕ
  pub count : ℕ
  pub given : Gives n links (order_of n links) chains positions count
  pub needs : needed ≡ n * count
  pub lacks : length before.index < needed
  pub wiped : Wiped before after
  pub loop : after.loop ≡ before.loop

-- the order, the places that the decomposer gave, the kept entries and the rows are written, and the rest of each table stays
pub record Settles (Gives : Giving) (n : ℕ) (links : List Link) (before : Tables) (s : Settled) (after : Tables) : Type 0 where
  pub ranked : length (order_of n links) ≡ n
  pub types : s.types ≡ n
  pub links_count : s.links ≡ length links
  pub kept_count_is : s.kept ≡ kept_count links
  pub given : Gives n links (order_of n links) (take n after.chain) (take n after.position) s.chains
  pub fits : n * s.chains ≤ length before.index
  pub order : after.order ≡ order_of n links ++ drop n before.order
  pub chain_rest : drop n after.chain ≡ drop n before.chain
  pub position_rest : drop n after.position ≡ drop n before.position
  pub kept : after.kept ≡ kept_of links ++ drop (length links) before.kept
  pub index : after.index ≡ rows_of n links (take n after.chain) (take n after.position) s.chains ++ drop (n * s.chains) before.index
  pub loop : after.loop ≡ before.loop
  pub scratch : after.scratch ≡ filled 0 before.scratch

-- the questions in their sequence: short tables, a loop, a short index
abbrev pub SettlesAs : Giving → ℕ → List Link → Tables → Result Settled Unsettled → Tables → Type 0
SettlesAs Gives n links before (Err ShortTable) after = (short n (length links) before ≡ true) × (after ≡ before)
SettlesAs Gives n links before (Err (LoopFound size)) after = (short n (length links) before ≡ false) × FindsLoop n links before size after
SettlesAs Gives n links before (Err (ShortIndex needed)) after = (short n (length links) before ≡ false) × NeedsIndex Gives n links before needed after
SettlesAs Gives n links before (Ok s) after = (short n (length links) before ≡ false) × Settles Gives n links before s after
