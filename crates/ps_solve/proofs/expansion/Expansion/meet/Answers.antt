use Rattle.std.proofs.Common.{◌++◌, ◌∷◌, [], ℕ, List, ap, sym, ◌∙◌, subst, arith}
use Rattle.std.specs.List.{list_any}
use Rattle.ps_solve.specs.Expansions.{IsExpanding, lead_to, leads_of, meets_goal}
use Rattle.ps_solve.specs.Reached.{places_of, rows_of}
use Rattle.ps_solve.specs.Rows.{plain_state, same_row}
use Rattle.ps_solve.specs.declared.rows.Row.{Row}
use Rattle.ps_solve.proofs.Expanding.{met_bad}
use Rattle.ps_solve.proofs.Meeting.{expanding_on, from_below, kept_full, kept_met, kept_new, row_met}
use Rattle.ps_solve.proofs.SameRows.{row_told}
use Rattle.ps_solve.proofs.expansion.Expansion.meet.Goals as goal

pub returns-then-len-self-clause-leads : goal.returns-then-len-self-clause-leads
returns-then-len-self-clause-leads c =
    let e = c.args.self.now in
    λ bad. kept_full e.task.now e.most c.args.reached.now (lead_to e c.args.reached.now c.args.place c.args.next.now) (omega (arith, c.if-len-self.true, c.len.ensures))

pub returns-then-contains-clause-good : goal.returns-then-contains-clause-good
returns-then-contains-clause-good c =
    let t = c.args.self.now.task.now in
    let rs = c.args.reached.now in
    let met = sym (row_met t c.as_slice-atoms.ensures.rise c.args.next.now rs c.requires.wide c.requires.expanding.wide) ∙ sym c.contains.ensures ∙ c.if-contains.true in
    sym (met_bad (meets_goal t) (leads_of t rs) (plain_state t.grounds.atoms c.args.next.now) c.requires.expanding.none met)

pub returns-then-contains-clause-leads : goal.returns-then-contains-clause-leads
returns-then-contains-clause-leads c =
    let e = c.args.self.now in
    let t = e.task.now in
    let rs = c.args.reached.now in
    let met = sym (row_met t c.as_slice-atoms.ensures.rise c.args.next.now rs c.requires.wide c.requires.expanding.wide) ∙ sym c.contains.ensures ∙ c.if-contains.true in
    λ bad. kept_met t e.most rs (lead_to e rs c.args.place c.args.next.now) met

pub push-requires-clause-new : goal.push-requires-clause-new
push-requires-clause-new c =
    ap (λ (r : Row). list_any (same_row r) (rows_of c.args.reached.now)) (row_told c.in_ok-row.row c.args.next.now c.in_ok-row.ensures.flags c.in_ok-row.ensures.values)
    ∙ sym c.contains.ensures ∙ c.if-contains.false

pub push-requires-clause-from : goal.push-requires-clause-from
push-requires-clause-from c = from_below c.args.self.now c.args.reached.now c.requires.expanding

pub returns-clause-leads : goal.returns-clause-leads
returns-clause-leads c =
    let e = c.args.self.now in
    let t = e.task.now in
    let rs = c.args.reached.now in
    let places = places_of rs e.from ++ c.args.place ∷ [] in
    let unmet = sym (row_met t c.as_slice-atoms.ensures.rise c.args.next.now rs c.requires.wide c.requires.expanding.wide) ∙ sym c.contains.ensures ∙ c.if-contains.false in
    let told = row_told c.in_ok-row.row c.args.next.now c.in_ok-row.ensures.flags c.in_ok-row.ensures.values in
    λ bad. ap (leads_of t) (c.in_ok-push.ensures ∙ (λ j. rs ++ (told j, places) ∷ []))
    ∙ kept_new t e.most rs c.args.next.now places (omega (arith, c.if-len-self.false, c.len.ensures)) unmet

pub returns-clause-expanding : goal.returns-clause-expanding
returns-clause-expanding c =
    let e = c.args.self.now in
    let t = e.task.now in
    let rs = c.args.reached.now in
    let places = places_of rs e.from ++ c.args.place ∷ [] in
    let told = row_told c.in_ok-row.row c.args.next.now c.in_ok-row.ensures.flags c.in_ok-row.ensures.values in
    let P : List (Row × List ℕ) → Type 0 = IsExpanding e in
    subst P (sym (c.in_ok-push.ensures ∙ (λ j. rs ++ (told j, places) ∷ [])))
    (expanding_on e rs c.args.next.now places c.requires.expanding c.requires.wide (sym c.is_good-2.ensures ∙ c.if-is_good.false))
