-- The contents of a register from those of its names and of the numbered book.
use Rattle.std.proofs.Common.{◌≡◌, ℕ, ◌+◌, ◌<◌, ◌≤◌, Bool, true, false, cond, ◌&&◌, ltb, List, [], ◌∷◌, length, Some, None, Ok, Err, Option, sym, refl, ap, ◌∙◌, inl, inr, arith, length-append}
use Rattle.std.proofs.lemmas.List.{length-take-le}
use Rattle.std.proofs.lemmas.Bool.{cond-true, cond-false, lt-ltb, cases_Bool}
use Rattle.std.specs.Str.{bytes_eq}
use Rattle.descent.specs.Links.{link}
use Rattle.hierarchy.specs.declared.entering.Entry.TheVariants.{New as NewLink, Known as KnownLink}
use Rattle.hierarchy.specs.declared.refusal.Refusal.{Refusal as NumberRefusal}
use Rattle.hierarchy.specs.declared.refusal.Refusal.TheVariants.{NoLinkPlace as NoLink}
use Rattle.hierarchy.specs.Books.{Book, book_of, after_link}
use Rattle.hierarchy.specs.Entering.{Held, links_in, has_link, link_answer}
use Rattle.names.specs.Finding.{number_in, number_from}
use Rattle.texts.specs.declared.refusal.Place.{Place}
use Rattle.register.specs.declared.refusal.Refusal.{Refusal}
use Rattle.register.specs.declared.refusal.Refusal.TheVariants.{NoLinkPlace}
use Rattle.register.specs.Entries.{entries, number_for, number_or, unless_known, with_name}
use Rattle.register.specs.Places.{room, first, no_name, no_link_place, no_base}
use Rattle.register.specs.declared.register.Register.{Register}
use Rattle.register.specs.Contents.{Contents, contents, contents_of, changed, unsettled}
use Rattle.register.specs.Growing.{NameEnters}
use Rattle.names.specs.Held.{names_in, pool_size, table_size}

abbrev pub contents_from : List (List ℕ) → ℕ → ℕ → Book → Contents
contents_from names pool places book =
    contents book.number (room pool places (length book.held.table)) (entries names (links_in book.held)) book.written book.settled

-- a link between types, by the numbered book and by the register
pub link_answer_lem : (h : Held) (a b : ℕ) → a < h.types → b < h.types → link_answer h a b ≡ cond (has_link (links_in h) a b) (Ok KnownLink) (cond (ltb h.count (length h.table) && ltb h.count 8192) (Ok NewLink) (Err NoLink))
link_answer_lem h a b la lb = cond-true _ _ _ (lt-ltb _ _ la) ∙ cond-true _ _ _ (lt-ltb _ _ lb)

pub number_bound : (first : ℕ) (names : List (List ℕ)) (bytes : List ℕ) (k : ℕ) → number_from first names bytes ≡ Some k → k < first + length names
number_bound first [] bytes k e = let z : ◌≡◌ {A = ℕ} 0 1 = cc in absurd (omega arith)
number_bound first (name ∷ names) bytes k e =
    elim (cases_Bool (bytes_eq name bytes)) [
      | inl t ↦ let h : Some first ≡ Some k = sym (cond-true _ _ _ t) ∙ e in let g : first ≡ k = cc in omega arith
      | inr f ↦ let h = number_bound (first + 1) names bytes k (sym (cond-false _ _ _ f) ∙ e) in omega arith
    ]

number_below_by : (o : Option ℕ) (names : List (List ℕ)) (bytes : List ℕ) → number_in names bytes ≡ o → number_or o (length names) < length (unless_known o names bytes)
number_below_by (Some k) names bytes e = omega (arith, number_bound 0 names bytes k e)
number_below_by None names bytes e = omega (arith, length-append names (bytes ∷ []))

pub number_below : (names : List (List ℕ)) (bytes : List ℕ) → number_for names bytes < length (with_name names bytes)
number_below names bytes = number_below_by (number_in names bytes) names bytes refl

grow_by : (o : Option ℕ) (names : List (List ℕ)) (bytes : List ℕ) → length names ≤ length (unless_known o names bytes)
grow_by (Some k) names bytes = omega arith
grow_by None names bytes = omega (arith, length-append names (bytes ∷ []))

pub names_grow : (names : List (List ℕ)) (bytes : List ℕ) → length names ≤ length (with_name names bytes)
names_grow names bytes = grow_by (number_in names bytes) names bytes

none_case : (known place : Bool) (refusal : NumberRefusal) → cond known (Ok KnownLink) (cond place (Ok NewLink) (Err NoLink)) ≡ Err refusal → (known ≡ false) × (place ≡ false) × (refusal ≡ NoLink)
none_case true place refusal e = let z : ◌≡◌ {A = ℕ} 0 1 = cc in absurd (omega arith)
none_case false true refusal e = let z : ◌≡◌ {A = ℕ} 0 1 = cc in absurd (omega arith)
none_case false false refusal e = (refl, refl, cc)

-- what is known where a base's name was entered, and its link is to be
pub record Linking (c : Contents) (base : List ℕ) (at : Place) (names : List (List ℕ)) (pool places : ℕ) (book : Book) (from to : ℕ) : Type 0 where
  pub now_is : unsettled (contents_from names pool places book) ≡ changed c (entries (with_name c.entries.names base) c.entries.links)
  pub named : no_name c.room c.entries.names base at ≡ None
  pub number : to ≡ number_for c.entries.names base
  pub first : from < book.held.types
  pub second : to < book.held.types
  pub few : book.held.count ≤ length book.held.table

module _ {c : Contents} {base : List ℕ} {at : Place} {names : List (List ℕ)} {pool places : ℕ} {book : Book} {from to : ℕ} (l : Linking c base at names pool places book from to) where
  links_are : links_in book.held ≡ c.entries.links
  links_are = ap (λ (x : Contents). x.entries.links) l.now_is

  table_is : length book.held.table ≡ c.room.links
  table_is = ap (λ (x : Contents). x.room.links) l.now_is

  count_is : book.held.count ≡ length c.entries.links
  count_is = sym (length-take-le book.held.count book.held.table l.few) ∙ ap length links_are

  known_is : (v : Bool) → has_link (links_in book.held) from to ≡ v → has_link c.entries.links from (number_for c.entries.names base) ≡ v
  known_is v e = ap (λ k. has_link c.entries.links from k) (sym l.number) ∙ ap (λ ls. has_link ls from to) (sym links_are) ∙ e

  place_is : (v : Bool) → (ltb book.held.count (length book.held.table) && ltb book.held.count 8192) ≡ v → (ltb (length c.entries.links) c.room.links && ltb (length c.entries.links) 8192) ≡ v
  place_is v e = ap (λ k. ltb k c.room.links && ltb k 8192) (sym count_is) ∙ ap (λ k. ltb book.held.count k && ltb book.held.count 8192) (sym table_is) ∙ e

  no_base_lem : (o : Option Refusal) → no_link_place c.room c.entries.links (link from (number_for c.entries.names base)) at ≡ o → no_base c.room from c.entries base at ≡ o
  no_base_lem o e = ap (λ x. first x (no_link_place c.room c.entries.links (link from (number_for c.entries.names base)) at)) l.named ∙ e

  pub base_unplaced : (refusal : NumberRefusal) (after : Book) → Err refusal ≡ link_answer book.held from to → after ≡ after_link book from to (Err refusal) → (refusal ≡ NoLink) × (no_base c.room from c.entries base at ≡ Some (NoLinkPlace at)) × (unsettled (contents_from names pool places after) ≡ changed c (entries (with_name c.entries.names base) c.entries.links))
  base_unplaced refusal after answer e =
      let n = none_case _ _ refusal (sym (link_answer_lem book.held from to l.first l.second) ∙ sym answer) in (
        n.2,
        no_base_lem (Some (NoLinkPlace at)) (cond-false _ _ _ (known_is false n.0) ∙ cond-false _ _ _ (place_is false n.1)),
        ap (λ b. unsettled (contents_from names pool places b)) e ∙ l.now_is,
      )

-- once the name was entered
pub linking : (c : Contents) (base : List ℕ) (at : Place) (after : Register) (from to : ℕ) → NameEnters c base at (Ok to) (contents_of after) → from < length c.entries.names
    → Linking c base at (names_in after.names) (pool_size after.names) (table_size after.names) (book_of after.numbered) from to
linking c base at after from to h below =
    let names : length (names_in after.names) ≡ length (with_name c.entries.names base) = ap (λ (x : Contents). length x.entries.names) h.2 in
    let types = after.named in
    record {
      now_is = h.2;
      named = h.0;
      number = h.1;
      first = omega (arith, names_grow c.entries.names base, names, types);
      second = omega (arith, number_below c.entries.names base, names, types, h.1);
      few = omega (arith, after.numbered.entered.few_links.0, after.numbered.entered.links.ok.0);
    }
