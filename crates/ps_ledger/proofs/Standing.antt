-- Offers that stand, and how runs ended.
use Rattle.std.proofs.Common.{◌≡◌, ℕ, ◌==◌, ◌&&◌, ◌||◌, not, Bool, true, false, Option, Some, None, is_some, if◌then◌else◌, List, [], ◌∷◌, ◌++◌, filter, map, refl, ap, sym, ◌∙◌}
use Rattle.std.proofs.lemmas.Bool.{eqb-true, true≢false}
use Rattle.std.specs.Cmp.{unsigned_Decides}
use Rattle.std.specs.Option.{option_or, unwrap_or}
use Rattle.ps_world.specs.Names.{same_name}
use Rattle.ps_world.specs.declared.names.Name.{Name}
use Rattle.ps_machine.specs.declared.journal.Event.{Event}
use Rattle.ps_machine.specs.declared.journal.Event.TheVariants as event
use Rattle.ps_machine.specs.declared.journal.Entry.{Entry}
use Rattle.ps_machine.specs.declared.journal.Outcome.{Outcome}
use Rattle.ps_rules.specs.Runs.{has_run, is_running, opens, says_open}
use Rattle.ps_rules.proofs.Pushed.{read-push}
use Rattle.ps_ledger.specs.Ends.{last_outcome, outcome_of, TellsEnds}
use Rattle.ps_ledger.specs.Offers.{is_other, offered_on, standing, standing_next, TellsOffers, without}
use Rattle.ps_ledger.specs.declared.ends.Ends.{Ends}
use Rattle.ps_ledger.specs.declared.offers.Offer.{Offer}
use Rattle.ps_ledger.specs.declared.offers.Offers.{Offers}
use Rattle.ps_ledger.proofs.LegalEvents.{or-left}

-- ---- offers

by-case : (b : Bool) (x : Offer) (ys : List Offer) → map (λ (o : Offer). o.by) (if b then x ∷ ys else ys) ≡ (if b then x.by ∷ map (λ (o : Offer). o.by) ys else map (λ (o : Offer). o.by) ys)
by-case true x ys = refl
by-case false x ys = refl

on-cons : (r : ℕ) (x : Offer) (xs : List Offer) → offered_on r (x ∷ xs) ≡ (if r == x.r then x.by ∷ offered_on r xs else offered_on r xs)
on-cons r x xs = by-case (r == x.r) x (filter (λ (o : Offer). r == o.r) xs)

-- one offer more

more-case : (b c : Bool) (p q : Name) (ps rest : List Name) → (if c then ps ++ q ∷ [] else ps) ≡ rest
    → (if c then (if b then p ∷ ps else ps) ++ q ∷ [] else (if b then p ∷ ps else ps)) ≡ (if b then p ∷ rest else rest)
more-case true true p q ps rest e = ap (λ xs. p ∷ xs) e
more-case true false p q ps rest e = ap (λ xs. p ∷ xs) e
more-case false true p q ps rest e = e
more-case false false p q ps rest e = e

nil-case : (c : Bool) (q : Name) → (if c then [] ++ q ∷ [] else []) ≡ (if c then q ∷ [] else [])
nil-case true q = refl
nil-case false q = refl

pub on-more : (r : ℕ) (o : Offer) (xs : List Offer) → (if r == o.r then offered_on r xs ++ o.by ∷ [] else offered_on r xs) ≡ offered_on r (xs ++ o ∷ [])
on-more r o [] = nil-case (r == o.r) o.by ∙ sym (on-cons r o [])
on-more r o (x ∷ xs) =
    ap (λ ps. if r == o.r then ps ++ o.by ∷ [] else ps) (on-cons r x xs)
    ∙ more-case (r == x.r) (r == o.r) x.by o.by (offered_on r xs) (offered_on r (xs ++ o ∷ [])) (on-more r o xs)
    ∙ sym (on-cons r x (xs ++ o ∷ []))

pub offer-made : (es : List Entry) (e : Entry) (l new : Offers) (s : ℕ) (q : Name) → TellsOffers es l → e.what ≡ event.Offer s q
    → new.all.items ≡ l.all.items ++ record { r = s; by = q } ∷ [] → TellsOffers (es ++ e ∷ []) new
offer-made es e l new s q t is made = record {
  offers = λ r.
      read-push (standing_next r) [] es e ∙ ap (standing_next r (standing r es)) is
      ∙ ap (λ ps. if r == s then ps ++ q ∷ [] else ps) (t.offers r) ∙ on-more r (record { r = s; by = q }) l.all.items ∙ ap (offered_on r) (sym made);
}

-- an offer that stands no longer

drop-case : (a b c n : Bool) (p q : Name) (ps rest : List Name) → (a ≡ true → b ≡ c) → (if c then without q ps else ps) ≡ rest → same_name p q ≡ n
    → (if c then without q (if a then p ∷ ps else ps) else (if a then p ∷ ps else ps)) ≡ (if not (b && n) then (if a then p ∷ rest else rest) else rest)
drop-case true true true true p q ps rest h e is = ap (λ m. if not m then p ∷ without q ps else without q ps) is ∙ e
drop-case true true true false p q ps rest h e is = ap (λ m. if not m then p ∷ without q ps else without q ps) is ∙ ap (λ xs. p ∷ xs) e
drop-case true true false n p q ps rest h e is = absurd (true≢false (h refl))
drop-case true false true n p q ps rest h e is = absurd (true≢false (sym (h refl)))
drop-case true false false n p q ps rest h e is = ap (λ xs. p ∷ xs) e
drop-case false true c true p q ps rest h e is = e
drop-case false true c false p q ps rest h e is = e
drop-case false false c n p q ps rest h e is = e

on-if : (k : Bool) (r : ℕ) (x : Offer) (ys : List Offer) → offered_on r (if k then x ∷ ys else ys) ≡ (if k then (if r == x.r then x.by ∷ offered_on r ys else offered_on r ys) else offered_on r ys)
on-if true r x ys = on-cons r x ys
on-if false r x ys = refl

flip : (m n : ℕ) → (m == n) ≡ (n == m)
flip m n =
    let cases : (b c : Bool) → (m == n) ≡ b → (n == m) ≡ c → b ≡ c =
    λ b c. elim b as (λ b. (m == n) ≡ b → (n == m) ≡ c → b ≡ c) [
      | true ↦ λ e f. sym ((unsigned_Decides n m).1 (sym (eqb-true m n e))) ∙ f
      | false ↦ λ e f. elim c as (λ c. (n == m) ≡ c → false ≡ c) [
        | true ↦ λ g. sym e ∙ (unsigned_Decides m n).1 (sym (eqb-true n m g))
        | false ↦ λ g. refl
      ] f
    ] in
    cases (m == n) (n == m) refl refl

same-request : (r s x : ℕ) → (r == x) ≡ true → (s == x) ≡ (r == s)
same-request r s x e = ap (λ y. s == y) (sym (eqb-true r x e)) ∙ flip s r

on-less : (r s : ℕ) (q : Name) (xs : List Offer) → (if r == s then without q (offered_on r xs) else offered_on r xs) ≡ offered_on r (filter (is_other s q) xs)
on-less r s q [] =
    let cases : (b : Bool) → (if b then without q [] else []) ≡ [] = λ b. elim b as (λ b. (if b then without q [] else []) ≡ []) [ true ↦ refl | false ↦ refl ] in
    cases (r == s)
on-less r s q (x ∷ xs) =
    ap (λ ps. if r == s then without q ps else ps) (on-cons r x xs)
    ∙ drop-case (r == x.r) (s == x.r) (r == s) (same_name x.by q) x.by q (offered_on r xs) (offered_on r (filter (is_other s q) xs)) (same-request r s x.r) (on-less r s q xs) refl
    ∙ sym (on-if (not ((s == x.r) && same_name x.by q)) r x (filter (is_other s q) xs))

pub offer-struck : (es : List Entry) (e : Entry) (l new : Offers) (s : ℕ) (q : Name) → TellsOffers es l
    → ((r : ℕ) (ps : List Name) → standing_next r ps e.what ≡ (if r == s then without q ps else ps))
    → new.all.items ≡ filter (is_other s q) l.all.items → TellsOffers (es ++ e ∷ []) new
offer-struck es e l new s q t is made = record {
  offers = λ r.
      read-push (standing_next r) [] es e ∙ is r (standing r es)
      ∙ ap (λ ps. if r == s then without q ps else ps) (t.offers r) ∙ on-less r s q l.all.items ∙ ap (offered_on r) (sym made);
}

-- ---- how runs ended

ended-next : (e : Event) (ran running : Bool) (old : Option Outcome) → (ran ≡ true → running ≡ false → is_some old ≡ true)
    → (ran || opens e) ≡ true → unwrap_or (says_open e) running ≡ false → is_some (option_or (outcome_of e) old) ≡ true
ended-next (event.Run for acts) ran running old before h closed = absurd (true≢false closed)
ended-next (event.Over how) ran running old before h closed = refl
ended-next e ran running old before h closed = before (or-left ran h) closed

pub ends-now : (es : List Entry) (e : Entry) (what : Event) (l new : Ends) → TellsEnds es l → e.what ≡ what → new.last ≡ option_or (outcome_of what) l.last
    → TellsEnds (es ++ e ∷ []) new
ends-now es e what l new t is made = record {
  last =
      read-push (λ how f. option_or (outcome_of f) how) None es e ∙ ap (λ f. option_or (outcome_of f) (last_outcome es)) is
      ∙ ap (option_or (outcome_of what)) t.last ∙ sym made;
  ended = λ ran closed.
      ap is_some made
      ∙ ended-next what (has_run es) (is_running es) l.last t.ended
      (ap (λ f. has_run es || opens f) (sym is) ∙ sym (read-push (λ found f. found || opens f) false es e) ∙ ran)
      (ap (λ f. unwrap_or (says_open f) (is_running es)) (sym is) ∙ sym (read-push (λ a f. unwrap_or (says_open f) a) false es e) ∙ closed);
}
