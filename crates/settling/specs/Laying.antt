-- What the first part of settling does: ranks, and then a loop or chains.
use Rattle.std.specs.Prelude.{◌≡◌, ℕ, ◌*◌, ◌<◌, ◌≤◌, List, ◌++◌, length, take, drop, Ok, Err, Result}
use Rattle.descent.specs.declared.link.Link.{Link}
use Rattle.descent.specs.Loops.{Loop}
use Rattle.order.specs.Order.{order_of}
use Rattle.order.specs.Ranks.{ranks_of}
use Rattle.rows.specs.KeptEntries.{kept_of, kept_count}
use Rattle.rows.specs.Rows.{rows_of}
use Rattle.settling.specs.declared.outcome.Settled.{Settled}
use Rattle.settling.specs.declared.outcome.Unsettled.{Unsettled}
use Rattle.settling.specs.declared.outcome.Unsettled.TheVariants.{ShortTable, Loop as LoopFound, ShortIndex}
use Rattle.settling.specs.Settling.{Giving, Tables}

-- types are left without a rank, and a loop is written to the front of its table
pub record Loops (n : ℕ) (links : List Link) (size : ℕ) (before after : List ℕ) : Type 0 where
  pub unranked : length (order_of n links) < n
  pub written : Loop links (take size after)
  pub bound : size ≤ n
  pub rest : drop size after ≡ drop size before

-- each type has a rank, and the decomposer's places are written
pub record Lays (Gives : Giving) (n : ℕ) (links : List Link) (count : ℕ) (order rank chain position : List ℕ) : Type 0 where
  pub ranked : length (order_of n links) ≡ n
  pub ordered : take n order ≡ order_of n links
  pub ranks : take n rank ≡ ranks_of n links
  pub given : Gives n links (order_of n links) (take n chain) (take n position) count
  pub few : count ≤ n

abbrev pub LaysOut : Giving → ℕ → List Link → List ℕ → Result ℕ Unsettled → List ℕ → List ℕ → List ℕ → List ℕ → List ℕ → Type 0
LaysOut Gives n links loop (Ok count) loop' order rank chain position = Lays Gives n links count order rank chain position × (loop' ≡ loop)
LaysOut Gives n links loop (Err ShortTable) loop' order rank chain position = ⊥
LaysOut Gives n links loop (Err (LoopFound size)) loop' order rank chain position = Loops n links size loop loop'
LaysOut Gives n links loop (Err (ShortIndex needed)) loop' order rank chain position = ⊥

-- all is written but scratch
pub record Written (Gives : Giving) (n : ℕ) (links : List Link) (before : Tables) (s : Settled) (after : Tables) : Type 0 where
  pub ranked : length (order_of n links) ≡ n
  pub types : s.types ≡ n
  pub links_count : s.links ≡ length links
  pub kept_count_is : s.kept ≡ kept_count links
  pub given : Gives n links (order_of n links) (take n after.chain) (take n after.position) s.chains
  pub fits : n * s.chains ≤ length before.index
  pub order : after.order ≡ order_of n links ++ drop n before.order
  pub chain_rest : drop n after.chain ≡ drop n before.chain
  pub position_rest : drop n after.position ≡ drop n before.position
  pub kept : after.kept ≡ kept_of links ++ drop (length links) before.kept
  pub index : after.index ≡ rows_of n links (take n after.chain) (take n after.position) s.chains ++ drop (n * s.chains) before.index
  pub loop : after.loop ≡ before.loop

pub record Lacks (Gives : Giving) (n : ℕ) (links : List Link) (before : Tables) (needed : ℕ) (after : Tables) : Type 0 where
  pub ranked : length (order_of n links) ≡ n
  pub chains : List ℕ
  pub positions : List ℕ
  pub count : ℕ
  pub given : Gives n links (order_of n links) chains positions count
  pub needs : needed ≡ n * count
  pub lacks : length before.index < needed
  pub loop : after.loop ≡ before.loop

-- what settling has done before it puts the tables in order that a refusal leaves
abbrev pub Begins : Giving → ℕ → List Link → Tables → Result Settled Unsettled → Tables → Type 0
Begins Gives n links before (Ok s) after = Written Gives n links before s after
Begins Gives n links before (Err ShortTable) after = ⊥
Begins Gives n links before (Err (LoopFound size)) after = Loops n links size before.loop after.loop
Begins Gives n links before (Err (ShortIndex needed)) after = Lacks Gives n links before needed after
