-- What is done in turns answers no line of the terminal.
use Rattle.std.proofs.Common.{◌≡◌, ℕ, zero, suc, ◌%◌, Bool, true, false, Option, Some, None, option_map, option_and_then, if◌then◌else◌, List, [], ◌∷◌, ◌++◌, find, flat_map, length, map, slice_get, refl, ap, sym, ◌∙◌, subst, append_assoc, append-nil}
use Rattle.std.specs.List.{AllByRecursion}
use Rattle.std.specs.Option.{option_map_or, option_or, option_to_list}
use Rattle.ps_world.specs.Knowledge.{edited}
use Rattle.ps_world.specs.declared.names.Name.{Name}
use Rattle.ps_action.specs.declared.answers.Answer.{Answer}
use Rattle.ps_action.specs.declared.answers.Answer.TheVariants as answer
use Rattle.ps_machine.specs.declared.inputs.Input.{Input}
use Rattle.ps_machine.specs.declared.journal.By.TheVariants as by
use Rattle.ps_machine.specs.declared.journal.FailWhy.TheVariants as fail
use Rattle.ps_machine.specs.declared.journal.PassWhy.TheVariants as pass
use Rattle.ps_machine.specs.declared.journal.Event.{Event}
use Rattle.ps_machine.specs.declared.journal.Event.TheVariants as event
use Rattle.ps_machine.specs.declared.journal.Entry.{Entry}
use Rattle.ps_rules.specs.Runs.{is_running}
use Rattle.ps_rules.specs.Auctions.{act_of, first_offer, offers, requests}
use Rattle.ps_rules.specs.Known.{know}
use Rattle.ps_rules.specs.Lines.{answers_line, edit_refusal}
use Rattle.ps_rules.specs.Members.{next_seen}
use Rattle.ps_rules.specs.Settled.{places, verdict}
use Rattle.ps_rules.specs.Legal.{is_legal}
use Rattle.ps_rules.specs.History.{forced}
use Rattle.ps_rules.specs.Choices.{act_turn, Actor, actors, all_requests, answers, beginnings, confirms, edit_event, ends, leaves, open_requests, ordered, overs, performed, planned, puts_up, rejects, Says, starts, stops, ticked, turn, unit_event, wants_plan, with_block, work_of}
use Rattle.ps_rules.specs.Choices.Actor.{performs, observes, ticks}
use Rattle.ps_rules.proofs.Choosing.{own-outcome, unit-own}
use Rattle.ps_progress_laws.proofs.Picking.{by_test}
use Rattle.ps_pool.specs.Courses.{GrowsInRun}
use Rattle.ps_pool.proofs.Forcing.{each-forced}

-- ---- lists of events that answer no line

abbrev Quiet : List Event → Type 0
Quiet es = AllByRecursion (λ e. answers_line e ≡ false) es

-- nothing is done, or what answers no line
abbrev pub IsOwn : Option Event → Type 0
IsOwn None = Unit {0}
IsOwn (Some e) = answers_line e ≡ false

quiet-join : (xs ys : List Event) → Quiet xs → Quiet ys → Quiet (xs ++ ys)
quiet-join [] ys h g = g
quiet-join (x ∷ xs) ys h g = (h.0, quiet-join xs ys h.1 g)

quiet-map : {A : Type 0} (f : A → Event) → ((x : A) → answers_line (f x) ≡ false) → (xs : List A) → Quiet (map f xs)
quiet-map f h [] = tt
quiet-map f h (x ∷ xs) = (h x, quiet-map f h xs)

quiet-flat : {A : Type 0} (f : A → List Event) → ((x : A) → Quiet (f x)) → (xs : List A) → Quiet (flat_map f xs)
quiet-flat f h [] = tt
quiet-flat f h (x ∷ xs) = quiet-join (f x) (flat_map f xs) (h x) (quiet-flat f h xs)

found-own : (test : Event → Bool) (xs : List Event) → Quiet xs → IsOwn (find test xs)
found-own test [] h = tt
found-own test (x ∷ xs) h =
    by_test (test x)
    (λ t. subst IsOwn (sym (ap (λ b. if b then Some x else find test xs) t)) h.0)
    (λ t. subst IsOwn (sym (ap (λ b. if b then Some x else find test xs) t)) (found-own test xs h.1))

or-own : (o p : Option Event) → IsOwn o → IsOwn p → IsOwn (option_or o p)
or-own None p h g = g
or-own (Some e) p h g = h

mapped-own : {A : Type 0} (f : A → Event) → ((x : A) → answers_line (f x) ≡ false) → (o : Option A) → IsOwn (option_map f o)
mapped-own f h None = tt
mapped-own f h (Some x) = h x

-- ---- members

performed-own : (i : Input) (p : Name) (es : List Entry) → IsOwn (performed i p es)
performed-own i p es =
    found-own (is_legal i es) (answers p es ++ (stops p es ++ beginnings p es))
    (quiet-join (answers p es) (stops p es ++ beginnings p es)
    (quiet-flat (λ r. event.Offer r p ∷ event.Pass r p pass.Late ∷ event.Pass r p pass.Other ∷ event.Pass r p pass.Busy ∷ []) (λ r. (refl, (refl, (refl, (refl, tt))))) (all_requests es))
    (quiet-join (stops p es) (beginnings p es) (quiet-map (λ r. event.Stopped r p) (λ r. refl) (all_requests es)) (quiet-map (λ r. event.Begin r p) (λ r. refl) (all_requests es))))

-- ---- the ticker

leave-own : (r : ℕ) (act : Option ℕ) → Quiet (event.Unserved r ∷ map (λ a. event.Fail a fail.NoPerformer) (option_to_list act))
leave-own r None = (refl, tt)
leave-own r (Some a) = (refl, (refl, tt))

ticked-own : (i : Input) (es : List Entry) → IsOwn (ticked i es)
ticked-own i es =
    let last = quiet-map event.Over (λ how. refl) (option_to_list (verdict i es)) in
    let from_starts = quiet-join (starts es) (overs i es) (quiet-map event.Start (λ act. refl) (places es)) last in
    let from_asks = quiet-join (puts_up es) (starts es ++ overs i es) (quiet-map (event.Request (requests es)) (λ act. refl) (places es)) from_starts in
    let from_ends = quiet-join (ends es) (puts_up es ++ (starts es ++ overs i es))
    (quiet-flat (λ act. event.End act ∷ event.Fail act fail.Script ∷ event.Fail act fail.AtEnd ∷ event.Fail act fail.Effect ∷ []) (λ act. (refl, (refl, (refl, (refl, tt))))) (places es)) from_asks in
    let from_leaves = quiet-join (leaves es) (ends es ++ (puts_up es ++ (starts es ++ overs i es)))
    (quiet-flat (λ r. event.Unserved r ∷ map (λ act. event.Fail act fail.NoPerformer) (option_to_list (act_of r es))) (λ r. leave-own r (act_of r es)) (open_requests es)) from_ends in
    let from_confirms = quiet-join (confirms es) (leaves es ++ (ends es ++ (puts_up es ++ (starts es ++ overs i es))))
    (quiet-flat (λ r. map (event.Confirm r) (option_to_list (first_offer (offers r es)))) (λ r. quiet-map (event.Confirm r) (λ p. refl) (option_to_list (first_offer (offers r es)))) (all_requests es)) from_leaves in
    found-own (is_legal i es) (rejects es ++ (confirms es ++ (leaves es ++ (ends es ++ (puts_up es ++ (starts es ++ overs i es))))))
    (quiet-join (rejects es) (confirms es ++ (leaves es ++ (ends es ++ (puts_up es ++ (starts es ++ overs i es)))))
    (quiet-flat (λ r. map (event.Reject r) (offers r es)) (λ r. quiet-map (event.Reject r) (λ p. refl) (offers r es)) (all_requests es)) from_confirms)

planned-own : (a : Answer) → IsOwn (planned a)
planned-own (answer.Plan plan) = refl
planned-own answer.NoPlan = refl
planned-own (answer.Spent depth) = refl
planned-own answer.TooMany = refl

asked-own : (b : Bool) (a : Answer) → IsOwn (if b then planned a else None)
asked-own true a = planned-own a
asked-own false a = tt

-- ---- turns

actor-own : (says : Says) (i : Input) (es : List Entry) (a : Actor) → IsOwn (act_turn says i es a)
actor-own says i es (performs p) =
    or-own (performed i p es) (option_map (λ w. unit_event i es w.0 p w.1) (work_of i p es)) (performed-own i p es)
    (mapped-own (λ w. unit_event i es w.0 p w.1) (λ w. unit-own i es w.0 p w.1) (work_of i p es))
actor-own says i es (observes o) =
    mapped-own (edit_event i es (by.Observer o)) (λ edit. own-outcome (by.Observer o) edit (edit_refusal (edited i.domain (know i es) edit)) refl (λ w. refl)) (next_seen i o es)
actor-own says i es ticks =
    or-own (ticked i es) (if wants_plan i es then planned (says i.domain (know i es) i.budget) else None) (ticked-own i es)
    (asked-own (wants_plan i es) (says i.domain (know i es) i.budget))

given-own : (says : Says) (i : Input) (es : List Entry) (actor : Option Actor) → IsOwn (option_and_then (act_turn says i es) actor)
given-own says i es None = tt
given-own says i es (Some a) = actor-own says i es a

turn-own : (says : Says) (i : Input) (es : List Entry) (actor : Option Actor) → IsOwn (turn says i es actor)
turn-own says i es actor = where_open (is_running es)
  where
    where_open : (b : Bool) → IsOwn (if b then option_and_then (act_turn says i es) actor else None)
    where_open true = given-own says i es actor
    where_open false = tt

-- ---- the entries of turns

all-join : (P : Entry → Type 0) (xs ys : List Entry) → AllByRecursion P xs → AllByRecursion P ys → AllByRecursion P (xs ++ ys)
all-join P [] ys h g = g
all-join P (x ∷ xs) ys h g = (h.0, all-join P xs ys h.1 g)

grown-turn : (i : Input) (hand : ℕ) (es now : List Entry) (done : Option Event) → GrowsInRun es now → IsOwn done → GrowsInRun es (option_map_or (with_block i hand now) done now)
grown-turn i hand es now None g own = g
grown-turn i hand es now (Some e) g own =
    let entry : Entry = record { hand = hand; what = e } in
    record {
      since = g.since ++ entry ∷ forced i now entry;
      all = ap (λ t. t ++ entry ∷ forced i now entry) g.all ∙ append_assoc es g.since (entry ∷ forced i now entry);
      no_line = all-join (λ c. answers_line c.what ≡ false) g.since (entry ∷ forced i now entry) g.no_line
          (own, each-forced (λ c. answers_line c.what ≡ false) hand (λ why act. refl) i (now ++ entry ∷ []) e);
    }

pub grown : (says : Says) (i : Input) (es : List Entry) (turns : ℕ) → GrowsInRun es (ordered says i es turns)
grown says i es zero = record { since = []; all = sym (append-nil es); no_line = tt }
grown says i es (suc turns) =
    let now = ordered says i es turns in
    let actor = slice_get (actors i) (turns % length (actors i)) in
    grown-turn i 1 es now (turn says i now actor) (grown says i es turns) (turn-own says i now actor)
