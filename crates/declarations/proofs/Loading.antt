-- A load, as an event of a history.
use Rattle.std.proofs.Common.{◌≡◌, ℕ, ◌≤◌, List, length, take, Some, None, Ok, Err, Option, Result, sym, refl, ap, ◌∙◌, subst, arith, length-append}
use Rattle.std.proofs.lemmas.List.{take-append-le}
use Rattle.descent.specs.Links.{Within}
use Rattle.texts.specs.Texts.{lines_of}
use Rattle.register.specs.declared.refusal.Unloaded.{Unloaded}
use Rattle.register.specs.declared.refusal.Unloaded.TheVariants.{Refused, NoMemory}
use Rattle.register.specs.Entries.{Entries, entries, with_lines, with_texts}
use Rattle.register.specs.Contents.{Contents, changed, LoadsAs}
use Rattle.register.specs.Growing.{Grown}
use Rattle.register.proofs.Growth.{grown_self}
use Rattle.register.proofs.Going.{grown_lines}
use Rattle.declarations.specs.declared.ticket.Mark.{Mark}
use Rattle.declarations.specs.Marks.{types_marked, links_marked, aside_of}
use Rattle.declarations.specs.Books.{State, with_contents}
use Rattle.declarations.specs.Histories.{loads, moment}
use Rattle.declarations.specs.Telling.{setup_of, kept_in, moment_of, LoadGoes}
use Rattle.declarations.proofs.Going.{goes_by}

pub grown-texts : (c : Contents) (shipped own : List ℕ) → Grown c (changed c (with_texts c.entries shipped own))
grown-texts c shipped own = grown_lines c (with_lines c.entries (lines_of shipped)) (lines_of own) (grown_lines c c.entries (lines_of shipped) (grown_self c))

-- what the open trial has laid aside is still there once more came in
pub record Stays (mark : Option Mark) (e after : Entries) : Type 0 where
  pub types : types_marked mark ≤ length after.names
  pub links : links_marked mark ≤ length after.links
  pub within : Within (take (links_marked mark) after.links) (types_marked mark)
  pub aside : aside_of mark after ≡ aside_of mark e

aside_same : (mark : Option Mark) (e after : Entries) → take (types_marked mark) after.names ≡ take (types_marked mark) e.names → take (links_marked mark) after.links ≡ take (links_marked mark) e.links → aside_of mark after ≡ aside_of mark e
aside_same None e after n l = refl
aside_same (Some m) e after n l = ap (λ x. Some (entries x (take m.links after.links))) n ∙ ap (λ x. Some (entries (take m.types e.names) x)) l

pub stays_grown : (mark : Option Mark) {a b : Contents} → Grown a b → types_marked mark ≤ length a.entries.names → links_marked mark ≤ length a.entries.links → Within (take (links_marked mark) a.entries.links) (types_marked mark) → Stays mark a.entries b.entries
stays_grown mark {a} {b} g t l w =
    let n : take (types_marked mark) b.entries.names ≡ take (types_marked mark) a.entries.names = ap (take (types_marked mark)) g.names ∙ take-append-le (types_marked mark) a.entries.names g.more_names t in
    let m : take (links_marked mark) b.entries.links ≡ take (links_marked mark) a.entries.links = ap (take (links_marked mark)) g.links ∙ take-append-le (links_marked mark) a.entries.links g.more_links l in
    record {
      types = omega (arith, ap length g.names, length-append a.entries.names g.more_names, t);
      links = omega (arith, ap length g.links, length-append a.entries.links g.more_links, l);
      within = subst (λ ls. Within ls (types_marked mark)) (sym m) w;
      aside = aside_same mark a.entries b.entries n m;
    }

module _ (mark : Option Mark) (c after : Contents) (shipped own : List ℕ) (t : types_marked mark ≤ length c.entries.names) (l : links_marked mark ≤ length c.entries.links) (w : Within (take (links_marked mark) c.entries.links) (types_marked mark)) where
  same_stays : after ≡ c → Stays mark c.entries after.entries
  same_stays e = subst (λ (x : Contents). Stays mark c.entries x.entries) (sym e) (record { types = t; links = l; within = w; aside = refl })

  pub load_stays : (r : Result (Unit {0}) Unloaded) → LoadsAs c shipped own r after → Stays mark c.entries after.entries
  load_stays (Ok u) h = subst (λ (x : Contents). Stays mark c.entries x.entries) (sym h.1) (stays_grown mark (grown-texts c shipped own) t l w)
  load_stays (Err (Refused refusal)) h = same_stays h.1
  load_stays (Err NoMemory) h = same_stays h

pub load_goes : (s : State) (after : Contents) (shipped own : List ℕ) (r : Result (Unit {0}) Unloaded) → LoadsAs s.contents shipped own r after → Stays s.mark s.contents.entries after.entries → LoadGoes s shipped own r (with_contents s after)
load_goes s after shipped own (Ok u) h stays =
    let e = with_texts s.contents.entries shipped own in
    goes_by s (with_contents s after) (loads shipped own (Ok tt)) (ap (λ c. setup_of (with_contents s c)) h.1)
    (ap (λ (c : Contents). moment c.entries (aside_of s.mark after.entries) s.opened (kept_in c)) h.1 ∙ ap (λ x. moment e x s.opened None) stays.aside)
    (sym h.0)
load_goes s after shipped own (Err (Refused refusal)) h stays =
    goes_by s (with_contents s after) (loads shipped own (Err refusal)) (ap (λ c. setup_of (with_contents s c)) h.1) (ap (λ c. moment_of (with_contents s c)) h.1) (sym h.0)
load_goes s after shipped own (Err NoMemory) h stays = ap (with_contents s) h
