-- Worked texts: what they enter, how it is settled and printed, and what is answered.
use Rattle.std.specs.Prelude.{◌≡◌, ℕ, Bool, true, List, [], ◌∷◌, map, length, Some, None, Ok, Err, codes, Result}
use Prim.Native.String.{String}
use Rattle.descent.specs.declared.link.Link.{Link}
use Rattle.descent.specs.Computed.{descends, nearest}
use Rattle.descent.specs.Links.{link}
use Rattle.descent.specs.Loops.{Loop}
use Rattle.order.specs.Order.{order_of}
use Rattle.order.specs.Ranks.{ranks_of}
use Rattle.chains.specs.ChainOrder.{chain_order}
use Rattle.chains.specs.Joining.{joined}
use Rattle.chains.specs.Places.{Places, places}
use Rattle.rows.specs.KeptEntries.{kept_of, kept_count, kept_links}
use Rattle.rows.specs.Rows.{rows_of}
use Rattle.settling.specs.declared.outcome.Settled.{Settled}
use Rattle.register.specs.declared.refusal.NotAsked.{NotAsked}
use Rattle.register.specs.declared.refusal.Which.TheVariants.{Second}
use Rattle.register.specs.declared.refusal.NotAsked.TheVariants.{Unknown}
use Rattle.register.specs.Asking.{numbers_answer, said_of}
use Rattle.register.specs.Entries.{Entries, entries, nothing, with_texts}
use Rattle.printing.specs.Printed.{printed}
use Rattle.declarations.specs.Histories.{loads, opens, withdraws, settles, History, moment_after}

-- what an own text enters, and what settling gives for it by chain order and by joining
pub record Worked : Type 0 where
  pub names : List (List ℕ)
  pub links : List Link
  pub ranks : List ℕ
  pub chains : Places
  pub joins : Places
  pub kept : List ℕ
  pub rows : List ℕ
  pub answer : Settled
  pub text : List ℕ

abbrev pub settled_as : Entries → Worked
settled_as e =
    let n = length e.names in
    let laid = chain_order n e.links (order_of n e.links) in
    record {
      names = e.names;
      links = e.links;
      ranks = ranks_of n e.links;
      chains = laid;
      joins = joined n e.links laid;
      kept = kept_of e.links;
      rows = rows_of n e.links laid.chains laid.positions laid.count;
      answer = record { types = n; links = length e.links; chains = laid.count; kept = kept_count e.links };
      text = printed e.names (kept_links e.links);
    }

abbrev pub worked_text : List ℕ → Worked
worked_text own = settled_as (with_texts nothing [] own)

abbrev pub animals : List ℕ
animals = codes "Cat < Pet, Animal\nPet < Animal\nDog < Animal"

abbrev pub texts : List (List ℕ)
texts = animals ∷ codes "X < M\nY < M\nM < P, Q\n" ∷ [] ∷ []

abbrev pub told : List Worked
told =
    -- Cat 0, Pet 1, Animal 2, Dog 3; the chains Cat Pet Animal and Dog; Cat to Animal is not kept; Dog's row is 2, 0, Animal's 2, 65,535
    record {
      names = codes "Cat" ∷ codes "Pet" ∷ codes "Animal" ∷ codes "Dog" ∷ [];
      links = link 0 1 ∷ link 0 2 ∷ link 1 2 ∷ link 3 2 ∷ [];
      ranks = 0 ∷ 1 ∷ 3 ∷ 2 ∷ [];
      chains = places 2 (0 ∷ 0 ∷ 0 ∷ 1 ∷ []) (0 ∷ 1 ∷ 2 ∷ 0 ∷ []);
      joins = places 2 (0 ∷ 0 ∷ 0 ∷ 1 ∷ []) (0 ∷ 1 ∷ 2 ∷ 0 ∷ []);
      kept = 1 ∷ 0 ∷ 1 ∷ 1 ∷ [];
      rows = 0 ∷ 65535 ∷ 1 ∷ 65535 ∷ 2 ∷ 65535 ∷ 2 ∷ 0 ∷ [];
      answer = record { types = 4; links = 4; chains = 2; kept = 3 };
      text = codes "Cat\nPet\nAnimal\nDog\nCat < Pet\nPet < Animal\nDog < Animal\n";
    }
    -- X M P, Y and Q by chain order; X M P and Y Q joined
    ∷ record {
      names = codes "X" ∷ codes "M" ∷ codes "Y" ∷ codes "P" ∷ codes "Q" ∷ [];
      links = link 0 1 ∷ link 2 1 ∷ link 1 3 ∷ link 1 4 ∷ [];
      ranks = 0 ∷ 2 ∷ 1 ∷ 3 ∷ 4 ∷ [];
      chains = places 3 (0 ∷ 0 ∷ 1 ∷ 0 ∷ 2 ∷ []) (0 ∷ 1 ∷ 0 ∷ 2 ∷ 0 ∷ []);
      joins = places 2 (0 ∷ 0 ∷ 1 ∷ 0 ∷ 1 ∷ []) (0 ∷ 1 ∷ 0 ∷ 2 ∷ 1 ∷ []);
      kept = 1 ∷ 1 ∷ 1 ∷ 1 ∷ [];
      rows = 0 ∷ 65535 ∷ 0 ∷ 1 ∷ 65535 ∷ 0 ∷ 1 ∷ 0 ∷ 0 ∷ 2 ∷ 65535 ∷ 65535 ∷ 65535 ∷ 65535 ∷ 0 ∷ [];
      answer = record { types = 5; links = 4; chains = 3; kept = 4 };
      text = codes "X\nM\nY\nP\nQ\nX < M\nM < P, Q\nY < M\n";
    }
    -- two empty texts settle with 0, 0, 0, 0
    ∷ record { names = []; links = []; ranks = []; chains = places 0 [] []; joins = places 0 [] []; kept = []; rows = []; answer = record { types = 0; links = 0; chains = 0; kept = 0 }; text = [] }
    ∷ []

-- load `A < B`; open; load `A < B` and `B < C`; withdraw; settle
abbrev pub withdrawn : History
withdrawn =
    settles 1024 4096 (places 1 (0 ∷ 0 ∷ []) (0 ∷ 1 ∷ [])) (1 ∷ []) (Ok (record { types = 2; links = 1; chains = 1; kept = 1 }))
    ∷ withdraws (record { book = 0; trial = 1 }) (Ok tt)
    ∷ loads [] (codes "A < B\nB < C") (Ok tt)
    ∷ opens (Ok (record { book = 0; trial = 1 }))
    ∷ loads [] (codes "A < B") (Ok tt)
    ∷ []

-- an ask after a history
abbrev pub asked : History → String → String → Result Bool NotAsked
asked h first second =
    let m = moment_after h in
    said_of m.force.links (numbers_answer m.settled m.force.names (codes first) (codes second))

-- whether a descends from b by the animals' links
abbrev pub below : ℕ → ℕ → Bool
below a b = descends (with_texts nothing [] animals).links a b

abbrev pub WorkedBooks : Type 0
WorkedBooks =
    (map worked_text texts ≡ told)
    -- A descends from B, and C is no type any more
    × (asked withdrawn "A" "B" ∷ asked withdrawn "A" "C" ∷ [] ≡ Ok true ∷ Err (Unknown Second) ∷ [])
    -- `A < A` is a loop of 1
    × (with_texts nothing [] (codes "A < A") ≡ entries (codes "A" ∷ []) (link 0 0 ∷ []))
    × Loop (link 0 0 ∷ []) (0 ∷ [])
    -- the nearest of Cat and Dog is Animal; by the opposite, Pet and Dog have none
    × (nearest 4 below 0 3 ≡ Some 2)
    × (nearest 4 (λ a b. below b a) 1 3 ≡ None)
