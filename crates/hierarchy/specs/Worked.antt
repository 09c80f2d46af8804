-- Worked books: the order of their types, their chains by chain order and joined, kept entries, and rows.
use Rattle.std.specs.Prelude.{◌≡◌, ℕ, List, [], ◌∷◌, map}
use Rattle.descent.specs.declared.link.Link.{Link}
use Rattle.descent.specs.Links.{link}
use Rattle.order.specs.Order.{order_of}
use Rattle.chains.specs.ChainOrder.{chain_order}
use Rattle.chains.specs.Joining.{joined}
use Rattle.chains.specs.Places.{Places, places}
use Rattle.rows.specs.KeptEntries.{kept_of, kept_count}
use Rattle.rows.specs.Rows.{rows_of}

-- types, links, and what settling writes for them
pub record Settling : Type 0 where
  pub types : ℕ
  pub links : List Link
  pub order : List ℕ
  pub chains : Places
  pub joins : Places
  pub kept : List ℕ
  pub kept_count : ℕ
  pub rows : List ℕ

-- what the definitions give for types and links
abbrev pub settling : ℕ → List Link → Settling
settling n links =
    let order = order_of n links in
    let laid = chain_order n links order in
    record {
      types = n;
      links = links;
      order = order;
      chains = laid;
      joins = joined n links laid;
      kept = kept_of links;
      kept_count = kept_count links;
      rows = rows_of n links laid.chains laid.positions laid.count;
    }

abbrev pub worked : List Settling
worked =
    -- Cat 0 below Pet 1 and Animal 2, Pet and Dog 3 below Animal
    record {
      types = 4;
      links = link 0 1 ∷ link 0 2 ∷ link 1 2 ∷ link 3 2 ∷ [];
      order = 0 ∷ 1 ∷ 3 ∷ 2 ∷ [];
      chains = places 2 (0 ∷ 0 ∷ 0 ∷ 1 ∷ []) (0 ∷ 1 ∷ 2 ∷ 0 ∷ []);
      joins = places 2 (0 ∷ 0 ∷ 0 ∷ 1 ∷ []) (0 ∷ 1 ∷ 2 ∷ 0 ∷ []);
      kept = 1 ∷ 0 ∷ 1 ∷ 1 ∷ [];
      kept_count = 3;
      rows = 0 ∷ 65535 ∷ 1 ∷ 65535 ∷ 2 ∷ 65535 ∷ 2 ∷ 0 ∷ [];
    }
    -- X 0 and Y 2 below M 1, M below P 3 and Q 4
    ∷ record {
      types = 5;
      links = link 0 1 ∷ link 2 1 ∷ link 1 3 ∷ link 1 4 ∷ [];
      order = 0 ∷ 2 ∷ 1 ∷ 3 ∷ 4 ∷ [];
      chains = places 3 (0 ∷ 0 ∷ 1 ∷ 0 ∷ 2 ∷ []) (0 ∷ 1 ∷ 0 ∷ 2 ∷ 0 ∷ []);
      joins = places 2 (0 ∷ 0 ∷ 1 ∷ 0 ∷ 1 ∷ []) (0 ∷ 1 ∷ 0 ∷ 2 ∷ 1 ∷ []);
      kept = 1 ∷ 1 ∷ 1 ∷ 1 ∷ [];
      kept_count = 4;
      rows = 0 ∷ 65535 ∷ 0 ∷ 1 ∷ 65535 ∷ 0 ∷ 1 ∷ 0 ∷ 0 ∷ 2 ∷ 65535 ∷ 65535 ∷ 65535 ∷ 65535 ∷ 0 ∷ [];
    }
    -- no types at all
    ∷ record { types = 0; links = []; order = []; chains = places 0 [] []; joins = places 0 [] []; kept = []; kept_count = 0; rows = [] }
    ∷ []

abbrev pub WorkedBooks : Type 0
WorkedBooks = map (λ (w : Settling). settling w.types w.links) worked ≡ worked
