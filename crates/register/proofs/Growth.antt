-- Entries that come in after others.
use Rattle.std.proofs.Common.{◌≡◌, ℕ, Bool, true, false, cond, List, [], ◌∷◌, ◌++◌, IsErrAnd, MatchResult, Some, None, Ok, Err, Option, Result, sym, refl, ap, ◌∙◌, subst, arith, append_assoc}
use Rattle.std.proofs.lemmas.List.{append-nil}
use Rattle.std.proofs.lemmas.Result.{err_from_is_err_and}
use Rattle.descent.specs.declared.link.Link.{Link}
use Rattle.descent.specs.Links.{link}
use Rattle.hierarchy.specs.Entering.{has_link}
use Rattle.names.specs.Finding.{number_in}
use Rattle.register.specs.Entries.{entries, unless_known, number_for, with_name, with_base}
use Rattle.register.specs.Contents.{Contents, changed, unsettled}
use Rattle.register.specs.Growing.{Grown}

more_by : (o : Option ℕ) (names : List (List ℕ)) (bytes : List ℕ) → (more : List (List ℕ)) × (unless_known o names bytes ≡ names ++ more)
more_by (Some k) names bytes = ([], sym (append-nil names))
more_by None names bytes = (bytes ∷ [], refl)

more_links_by : (b : Bool) (links : List Link) (l : Link) → (more : List Link) × (cond b links (links ++ (l ∷ [])) ≡ links ++ more)
more_links_by true links l = ([], sym (append-nil links))
more_links_by false links l = (l ∷ [], refl)

-- a name more
pub grown_name : (c : Contents) (bytes : List ℕ) → Grown c (changed c (entries (with_name c.entries.names bytes) c.entries.links))
grown_name c bytes =
    let m = more_by (number_in c.entries.names bytes) c.entries.names bytes in
    record { same = refl; more_names = m.0; names = m.1; more_links = []; links = sym (append-nil c.entries.links) }

pub grown-base : (c : Contents) (from : ℕ) (base : List ℕ) → Grown c (changed c (with_base from c.entries base))
grown-base c from base =
    let m = more_by (number_in c.entries.names base) c.entries.names base in
    let l = more_links_by (has_link c.entries.links from (number_for c.entries.names base)) c.entries.links (link from (number_for c.entries.names base)) in
    record { same = refl; more_names = m.0; names = m.1; more_links = l.0; links = l.1 }

pub grown_refl : (c : Contents) → Grown c c
grown_refl c = record { same = refl; more_names = []; names = sym (append-nil c.entries.names); more_links = []; links = sym (append-nil c.entries.links) }

pub grown_self : (c : Contents) → Grown c (changed c c.entries)
grown_self c = record { same = refl; more_names = []; names = sym (append-nil c.entries.names); more_links = []; links = sym (append-nil c.entries.links) }

pub grown_trans : {a b c : Contents} → Grown a b → Grown b c → Grown a c
grown_trans {a} {b} {c} p q = record {
  same = q.same ∙ ap (λ x. changed x c.entries) p.same;
  more_names = p.more_names ++ q.more_names;
  names = q.names ∙ ap (λ ns. ns ++ q.more_names) p.names ∙ append_assoc a.entries.names p.more_names q.more_names;
  more_links = p.more_links ++ q.more_links;
  links = q.links ∙ ap (λ ns. ns ++ q.more_links) p.links ∙ append_assoc a.entries.links p.more_links q.more_links;
}

pub grown_is : {a b c : Contents} → unsettled c ≡ b → Grown a b → Grown a c
grown_is {a} {b} {c} e g =
    let P : Contents → Type 0 = Grown a in
    let h : Grown a (unsettled c) = subst P (sym e) g in
    record { same = h.same; more_names = h.more_names; names = h.names; more_links = h.more_links; links = h.links }

-- what a function promises where a `?` leaves it with the refusal y
pub left_by : {T E : Type 0} (P : Result T E → Type 0) (r : Result T E) (y : E) → IsErrAnd r (λ x. x ≡ y) → P (Err y) → P r
left_by P r y h p = let e = err_from_is_err_and r h in subst P (sym (e.1 ∙ ap Err e.2)) p

pub mapped_err : {T E D : Type 0} (P : E → D → Type 0) (r : Result T E) (m : Result T D) (d : D) → MatchResult r (λ y. m ≡ Ok y) (λ e. IsErrAnd m (P e)) → m ≡ Err d → (e : E) × (r ≡ Err e) × P e d
mapped_err P (Ok y) m d h e = let g : Ok y ≡ Err d = sym h ∙ e in let z : ◌≡◌ {A = ℕ} 0 1 = cc in absurd (omega arith)
mapped_err P (Err y) m d h e = (y, refl, subst (λ k. IsErrAnd k (P y)) e h)
