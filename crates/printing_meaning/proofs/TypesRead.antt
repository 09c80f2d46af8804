-- Lines of types with their bases, all of them known.
use Rattle.std.proofs.Common.{◌≡◌, ℕ, ◌+◌, ◌≤◌, Bool, true, false, cond, ◌&&◌, ltb, List, [], ◌∷◌, ◌++◌, length, Some, None, Option, sym, refl, ap, ◌∙◌, subst, ap₂, append_assoc, append-nil, arith}
use Rattle.std.specs.List.{AllByRecursion}
use Rattle.std.proofs.lemmas.List.{length-append}
use Rattle.std.proofs.lemmas.Bool.{cond-true, cond-false, and_from, lt-ltb}
use Rattle.descent.specs.declared.link.Link.{Link}
use Rattle.descent.specs.Links.{link}
use Rattle.hierarchy.specs.Entering.{has_link}
use Rattle.names.specs.Finding.{number_in}
use Rattle.names.specs.Entering.{place_answer, answer_by}
use Rattle.grammar.specs.Grammar.{Named, named}
use Rattle.texts.specs.declared.refusal.Source.{Source}
use Rattle.texts.specs.declared.refusal.Place.{Place}
use Rattle.register.specs.declared.refusal.Refusal.{Refusal}
use Rattle.register.specs.declared.refusal.Refusal.TheVariants.{NoLinkPlace}
use Rattle.register.specs.Entries.{Entries, entries, number_or, unless_known, with_link, with_base, with_bases}
use Rattle.register.specs.Places.{Room, first, name_refusal, no_link_place, no_base, no_bases}
use Rattle.printing.specs.Printed.{base_names}
use Rattle.printing_meaning.proofs.Lawful.{Good}
use Rattle.printing_meaning.proofs.TypeTexts.{columns, type_text_read}
use Rattle.printing_meaning.proofs.PrintedLinks.{base_links, type_links, Before, before_new, before_next_base, before_more, before_bases}
use Rattle.printing_meaning.proofs.TextLines.{own_line, type_texts, good_bases}
use Rattle.printing_meaning.proofs.Numbered.{Numbered}
use Rattle.printing_meaning.proofs.LinesRead.{ReadsAll, reads_append}

-- links that find their places
abbrev pub LinksFit : Room → List Link → Type 0
LinksFit r links = (length links ≤ r.links) × (length links ≤ 8192)

fit_front : (r : Room) (xs ys : List Link) → LinksFit r (xs ++ ys) → LinksFit r xs
fit_front r xs ys h = let n = length-append xs ys in let a = h.0 in let b = h.1 in (omega arith, omega arith)

module _ (r : Room) (all : List (List ℕ)) where
  -- bases of type t that are entered without a refusal
  abbrev BasesRead : ℕ → List Link → List Named → List Link → Type 0
  BasesRead t done bases after =
      (with_bases t (entries all done) bases ≡ entries all after) × ((source : Source) (line : ℕ) → no_bases r source line t (entries all done) bases ≡ None)

  -- a known base by a new link
  module _ (t k : ℕ) (done : List Link) (base : List ℕ) (known : number_in all base ≡ Some k) (new : has_link done t k ≡ false) where
    base_entered : with_base t (entries all done) base ≡ entries all (done ++ (link t k ∷ []))
    base_entered =
        ap (λ o. entries (unless_known o all base) (with_link done (link t (number_or o (length all))))) known
        ∙ ap (entries all) (cond-false (has_link done t k) done (done ++ (link t k ∷ [])) new)

    base_found : LinksFit r (done ++ (link t k ∷ [])) → (at : Place) → no_base r t (entries all done) base at ≡ None
    base_found fit at =
        let n = length-append done (link t k ∷ []) in
        let a = fit.0 in
        let b = fit.1 in
        let room = ltb (length done) r.links && ltb (length done) 8192 in
        let refused : Option Refusal = Some (NoLinkPlace at) in
        ap (λ o. first (name_refusal at (answer_by o (place_answer r.pool r.names all (length base)) (length all))) (no_link_place r done (link t (number_or o (length all))) at)) known
        ∙ cond-false (has_link done t k) None (cond room None refused) new
        ∙ cond-true room None refused (and_from _ _ (lt-ltb (length done) r.links (omega arith)) (lt-ltb (length done) 8192 (omega arith)))

  bases_read : (links : List Link) (t first_base : ℕ) (names : List (List ℕ)) (done : List Link) (c : ℕ) → Numbered all first_base names → Before done t first_base → LinksFit r (done ++ base_links links t first_base names)
      → BasesRead t done (columns c (base_names links t first_base names)) (done ++ base_links links t first_base names)
  bases_read links t k [] done c numbers before fit = (ap (entries all) (sym (append-nil done)), λ source line. refl)
  bases_read links t k (name ∷ names) done c numbers before fit =
      by_test (has_link links t k)
      (λ fits. bases_read links t (k + 1) names (done ++ (link t k ∷ [])) (c + length name + 2) numbers.1 (before_more done t k before) fits)
      (λ fits. bases_read links t (k + 1) names done c numbers.1 (before_next_base done t k before) fits)
      fit
    where
      bases : List (List ℕ)
      bases = base_names links t (k + 1) names

      more : List Link
      more = base_links links t (k + 1) names

      by_test : (x : Bool)
          → (LinksFit r ((done ++ (link t k ∷ [])) ++ more) → BasesRead t (done ++ (link t k ∷ [])) (columns (c + length name + 2) bases) ((done ++ (link t k ∷ [])) ++ more))
          → (LinksFit r (done ++ more) → BasesRead t done (columns c bases) (done ++ more))
          → LinksFit r (done ++ cond x (link t k ∷ more) more)
          → BasesRead t done (columns c (cond x (name ∷ bases) bases)) (done ++ cond x (link t k ∷ more) more)
      by_test true entered passed fits =
          let new = before_new done t k before in
          let joined = append_assoc done (link t k ∷ []) more in
          let fits' : LinksFit r ((done ++ (link t k ∷ [])) ++ more) = subst (LinksFit r) (sym joined) fits in
          let rest = entered fits' in
          let here = base_entered t k done name numbers.0 new in (
            ap (λ e. with_bases t e (columns (c + length name + 2) bases)) here ∙ rest.0 ∙ ap (entries all) joined,
            λ source line.
                ap₂ (λ (o : Option Refusal) (e : Entries). first o (no_bases r source line t e (columns (c + length name + 2) bases)))
                (base_found t k done name numbers.0 new (fit_front r (done ++ (link t k ∷ [])) more fits') (record { source = source; line = line; column = c }))
                here
                ∙ rest.1 source line,
          )
      by_test false entered passed fits = passed fits

  -- the line of a known type
  type_reads : (t : ℕ) (name : List ℕ) (bases : List (List ℕ)) (done after : List Link) → number_in all name ≡ Some t → Good name → AllByRecursion Good bases → ((c : ℕ) → BasesRead t done (columns c bases) after) → ReadsAll r (entries all done) (own_line name bases) (entries all after)
  type_reads t name [] done after known g a f = (f 0).0
  type_reads t name (base ∷ bases) done after known g a f =
      let held = columns (length name + 4) (base ∷ bases) in
      let read = f (length name + 4) in (
        entries all after,
        record {
          held = named 1 name ∷ held;
          is_lawful = type_text_read name base bases g a.0 a.1;
          enters = ap (λ o. with_bases (number_or o (length all)) (entries (unless_known o all name) done) held) known ∙ read.0;
          finds = λ source k.
              ap (λ o. first (name_refusal (record { source = source; line = k; column = 1 }) (answer_by o (place_answer r.pool r.names all (length name)) (length all))) (no_bases r source k (number_or o (length all)) (entries (unless_known o all name) done) held)) known
              ∙ read.1 source k;
        },
        refl,
      )

  pub types_read : (links : List Link) → AllByRecursion Good all → Numbered all 0 all → (t : ℕ) (names : List (List ℕ)) (done : List Link) → AllByRecursion Good names → Numbered all t names → Before done t 0 → LinksFit r (done ++ type_links links all t names)
      → ReadsAll r (entries all done) (type_texts links all t names) (entries all (done ++ type_links links all t names))
  types_read links good numbers t [] done g n before fit = ap (entries all) (sym (append-nil done))
  types_read links good numbers t (name ∷ names) done g n before fit =
      let own = base_links links t 0 all in
      let more = type_links links all (t + 1) names in
      let joined = append_assoc done own more in
      let fits : LinksFit r ((done ++ own) ++ more) = subst (LinksFit r) (sym joined) fit in
      let here = type_reads t name (base_names links t 0 all) done (done ++ own) n.0 g.0 (good_bases links t 0 all good) (λ c. bases_read links t 0 all done c numbers before (fit_front r (done ++ own) more fits)) in
      let there = types_read links good numbers (t + 1) names (done ++ own) g.1 n.1 (before_bases links done t all before) fits in
      reads_append r (entries all done) (own_line name (base_names links t 0 all)) (type_texts links all (t + 1) names) (entries all (done ++ own)) (entries all (done ++ (own ++ more))) here
      (subst (λ l. ReadsAll r (entries all (done ++ own)) (type_texts links all (t + 1) names) (entries all l)) joined there)
