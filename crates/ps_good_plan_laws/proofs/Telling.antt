-- The lists that are known rise, so states that tell the same are equal.
use Rattle.std.proofs.Common.{◌≡◌, true, cond, Some, Result, Ok, Err, List, [], ◌∷◌, refl, ap, sym, ◌∙◌, subst}
use Rattle.std.specs.Prelude.{T}
use Rattle.std.specs.List.{AllByRecursion}
use Rattle.std.specs.List.Sorted.{IsStrictlySortedBy}
use Rattle.std.specs.FinMap.Entries.{below_all, find, is_sorted, same_entries}
use Rattle.std.specs.Map.{keys_of, lookup}
use Rattle.std.specs.declared.cmp.Ordering.TheVariants.{Less}
use Rattle.std.proofs.lemmas.Map.Lookups.{btree_set_from_contains}
use Rattle.ps_world.specs.Names.{name_cmp}
use Rattle.ps_world.specs.Facts.{fact_cmp}
use Rattle.ps_world.specs.Knowledge.{edited, opening, same_fact}
use Rattle.ps_world.specs.declared.domains.Domain.{Domain}
use Rattle.ps_world.specs.declared.facts.Fact.{Fact}
use Rattle.ps_world.specs.declared.numbers.Num.{Num}
use Rattle.ps_world.specs.declared.known.Knowledge.{Knowledge}
use Rattle.ps_world.specs.declared.actions.Spread.{Spread}
use Rattle.ps_world.specs.declared.edits.Edit.{Edit}
use Rattle.ps_world.specs.declared.edits.EditRefusal.{EditRefusal}
use Rattle.ps_action.specs.declared.acts.Act.{Act}
use Rattle.ps_action.specs.declared.refusals.EffectRefusal.{EffectRefusal}
use Rattle.ps_action.specs.declared.touched.Touched.TheVariants as touched
use Rattle.ps_action.specs.Effects.{effect}
use Rattle.ps_action.proofs.Facts.{exact_facts, facts_total}
use Rattle.ps_action.proofs.Made.{effects_change}
use Rattle.ps_machine.specs.declared.inputs.Input.{Input}
use Rattle.ps_machine.specs.declared.journal.Event.{Event}
use Rattle.ps_machine.specs.declared.journal.Event.TheVariants as event
use Rattle.ps_machine.specs.declared.journal.Entry.{Entry}
use Rattle.ps_problem.specs.Changes.{Rises}
use Rattle.ps_problem.proofs.Changes.{edits_change}
use Rattle.ps_problem.proofs.Opening.{sorted_opened}
use Rattle.ps_arcs.specs.Commuting.{TellTheSame}
use Rattle.ps_rules.specs.Reading.{read}
use Rattle.ps_rules.specs.Known.{both_after, kept, know, known_after, part}
use Rattle.ps_arcs.proofs.Acting.{agree_itself}
use Rattle.ps_good_plan_laws.specs.Telling.{ToldIsKnown}

-- ---- lists rise

after_edit : (d : Domain) (k : Knowledge) (edit : Edit) (r : Result Knowledge EditRefusal) → edited d k edit ≡ r → Rises k → Rises (kept k r)
after_edit d k edit (Ok new) e rises = (edits_change d k edit new e).1 rises
after_edit d k edit (Err why) e rises = rises

after_effects : (d : Domain) (k : Knowledge) (es : List Spread) (r : Result Knowledge EffectRefusal) → effect d k es ≡ r → Rises k → Rises (kept k r)
after_effects d k es (Ok new) e rises =
    let made = effects_change d k es new e in
    record {
      instances = subst (λ is. IsStrictlySortedBy name_cmp (keys_of is)) (sym made.instances) rises.instances;
      facts = made.facts_rise rises.facts;
      values = made.values_rise rises.values;
    }
after_effects d k es (Err why) e rises = rises

rises_next : (d : Domain) (acts : List Act) (k : Knowledge) (e : Event) → Rises k → Rises (known_after d acts k e)
rises_next d acts k (event.Edit by edit) rises = after_edit d k edit (edited d k edit) refl rises
rises_next d acts k (event.Start act) rises =
    let es = part (λ g. g.effects.at_start) d acts act in after_effects d k es (effect d k es) refl rises
rises_next d acts k (event.End act) rises =
    let es = part (λ g. g.effects.at_end) d acts act in after_effects d k es (effect d k es) refl rises
rises_next d acts k e rises = rises

rises_on : (d : Domain) (now : List Act × Knowledge) (es : List Entry) → Rises now.1 → Rises (read (both_after d) now es).1
rises_on d now [] rises = rises
rises_on d now (e ∷ es) rises = rises_on d (both_after d now e.what) es (rises_next d now.0 now.1 e.what rises)

opening_rises : (d : Domain) → Rises (opening d)
unfolding IsStrictlySortedBy
opening_rises d = record { instances = sorted_opened [] d.constants tt; facts = tt; values = tt }

know_rises : (i : Input) (es : List Entry) → Rises (know i es)
know_rises i es = rises_on i.domain ([], opening i.domain) es (opening_rises i.domain)

-- ---- values that rise are told by their look-ups

lower : (f : Fact) (vs : List (Fact × Num)) → AllByRecursion (λ g. fact_cmp f g ≡ Less) (keys_of vs) → below_all fact_cmp f vs ≡ true
lower f [] a = refl
lower f (v ∷ vs) a = let less = a.0 in rw less (lower f vs a.1)

in_order : (vs : List (Fact × Num)) → IsStrictlySortedBy fact_cmp (keys_of vs) → is_sorted fact_cmp vs ≡ true
unfolding IsStrictlySortedBy
in_order [] s = refl
in_order (v ∷ vs) s = rw (lower v.0 vs s.0) (in_order vs s.1)

found : (f : Fact) (vs : List (Fact × Num)) → find fact_cmp f vs ≡ lookup (same_fact f) vs
found f [] = refl
found f (v ∷ vs) = ap (λ o. cond (same_fact f v.0) (Some v.1) o) (found f vs)

same_values : (vs ws : List (Fact × Num)) → IsStrictlySortedBy fact_cmp (keys_of vs) → IsStrictlySortedBy fact_cmp (keys_of ws)
    → ((f : Fact) → lookup (same_fact f) vs ≡ lookup (same_fact f) ws) → vs ≡ ws
same_values vs ws s t h =
    same_entries fact_cmp facts_total exact_facts vs ws (subst T (sym (in_order vs s)) tt) (subst T (sym (in_order ws t)) tt)
    (λ f. found f vs ∙ h f ∙ sym (found f ws))

-- ---- what is told is what is known

told_equal : (k l : Knowledge) → Rises k → Rises l → TellTheSame k l → k ≡ l
told_equal k l rises also t =
    let facts : k.facts ≡ l.facts =
    btree_set_from_contains facts_total (record { keys = k.facts }) (record { keys = l.facts }) rises.facts also.facts (λ f. t.things (touched.Fact f)) exact_facts in
    let values : k.values ≡ l.values = same_values k.values l.values rises.values also.values (λ f. t.things (touched.Value f)) in
    λ j. record { instances = t.instances j; facts = facts j; values = values j; goal = t.goal j }

pub told_is_known : ToldIsKnown
told_is_known i es fs = (
  told_equal (know i es) (know i fs) (know_rises i es) (know_rises i fs),
  λ e. subst (λ k. TellTheSame (know i es) k) e (record { instances = refl; goal = refl; things = agree_itself (know i es) }),
)
