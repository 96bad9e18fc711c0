-- Sameness decides equality, and for causes that of the first causes that print so.
use Rattle.std.proofs.Common.{◌≡◌, Bool, true, List, refl, ap, sym, ◌∙◌}
use Rattle.std.specs.Bool.{Decides}
use Rattle.std.specs.Cmp.{signed_Decides}
use Rattle.std.specs.Cmp.Lexicographic.{pointwise}
use Rattle.std.specs.Ordering.{int_eq}
use Rattle.std.proofs.lemmas.Slice.Eq.{slice_eq-Decides}
use Rattle.std.proofs.lemmas.Bool.{and_from, and_parts}
use Rattle.ps_world.specs.CondViews.{cond_tree}
use Rattle.ps_world.specs.Knowledge.{same_fact}
use Rattle.ps_world.specs.Names.{Table, same_name}
use Rattle.ps_world.specs.Same.{is_same_decides}
use Rattle.ps_world.specs.Trees.{CondTree, cond_tree_code, cond_trees, list_of, list_of-cond_trees}
use Rattle.ps_world.specs.declared.names.Name.{Name}
use Rattle.ps_world.specs.declared.edits.Edit.{Edit}
use Rattle.ps_world.specs.declared.edits.Edit.TheVariants as change
use Rattle.ps_world.proofs.SameTexts.{name_itself}
use Rattle.ps_world.proofs.OneTree.{cond_tree_one}
use Rattle.ps_action.specs.declared.acts.Act.{Act}
use Rattle.ps_action.specs.declared.refusals.GroundRefusal.TheVariants as grounding
use Rattle.ps_machine.specs.Texts.{refusal_text}
use Rattle.ps_machine.specs.contracts.inputs.Query as a_query
use Rattle.ps_machine.specs.contracts.journal.Outcome as an_outcome
use Rattle.ps_machine.specs.contracts.journal.Refusal as a_refusal
use Rattle.ps_machine.specs.declared.inputs.Query.{Query}
use Rattle.ps_machine.specs.declared.journal.Outcome.{Outcome}
use Rattle.ps_machine.specs.declared.journal.Refusal.{Refusal}
use Rattle.ps_machine.specs.declared.journal.Refusal.TheVariants as refusal
use Rattle.ps_action.proofs.Contained.{fact_itself, fact_same}
use Rattle.ps_action.proofs.Facts.{same_name-is}
use Rattle.ps_rules.specs.Laws.{SamenessDecides}
use Rattle.ps_rules.specs.Same.{first_alike, same_act, same_acts, same_cause, same_edit, same_outcome, same_query}

-- ---- tests

-- a test that values pass exactly with themselves decides that they are equal
decides-by : {A : Type 0} (test : A → A → Bool) → ((x : A) → test x x ≡ true) → ((x y : A) → test x y ≡ true → x ≡ y) → (x y : A) → Decides (test x y) (x ≡ y)
decides-by test itself is x y = (is x y, λ e. ap (test x) (sym e) ∙ itself x)

pub same_name-decides : (m n : Name) → Decides (same_name m n) (m ≡ n)
same_name-decides = decides-by same_name name_itself same_name-is

-- ---- edits

cond_trees-one : (cs ds : List CondTree) → cond_trees cs ≡ cond_trees ds → cs ≡ ds
cond_trees-one cs ds e = sym (list_of-cond_trees cs) ∙ ap list_of e ∙ list_of-cond_trees ds

pub same_edit-itself : (e : Edit) → same_edit e e ≡ true
same_edit-itself (change.AddInstance n t) = and_from (same_name n n) (same_name t t) (name_itself n) (name_itself t)
same_edit-itself (change.RemoveInstance n) = name_itself n
same_edit-itself (change.AddFact f) = fact_itself f
same_edit-itself (change.RemoveFact f) = fact_itself f
same_edit-itself (change.SetValue f x) = and_from (same_fact f f) (int_eq x x) (fact_itself f) ((signed_Decides x x).1 refl)
same_edit-itself (change.RemoveValue f) = fact_itself f
same_edit-itself (change.SetGoal c) = (is_same_decides cond_tree_code (cond_tree c) (cond_tree c)).1 refl
same_edit-itself change.RemoveGoal = refl

same_edit-is : (e f : Edit) → same_edit e f ≡ true → e ≡ f
same_edit-is (change.AddInstance n t) (change.AddInstance m u) h =
    let parts = and_parts (same_name n m) (same_name t u) h in
    λ i. change.AddInstance (same_name-is n m parts.0 i) (same_name-is t u parts.1 i)
same_edit-is (change.RemoveInstance n) (change.RemoveInstance m) h = ap change.RemoveInstance (same_name-is n m h)
same_edit-is (change.AddFact f) (change.AddFact g) h = ap change.AddFact (fact_same f g h)
same_edit-is (change.RemoveFact f) (change.RemoveFact g) h = ap change.RemoveFact (fact_same f g h)
same_edit-is (change.SetValue f x) (change.SetValue g y) h =
    let parts = and_parts (same_fact f g) (int_eq x y) h in
    let value : x ≡ y = (signed_Decides x y).0 parts.1 in
    λ i. change.SetValue (fact_same f g parts.0 i) (value i)
same_edit-is (change.RemoveValue f) (change.RemoveValue g) h = ap change.RemoveValue (fact_same f g h)
same_edit-is (change.SetGoal c) (change.SetGoal d) h =
    ap change.SetGoal (cond_tree_one c d ((is_same_decides cond_tree_code (cond_tree c) (cond_tree d)).0 h))
same_edit-is change.RemoveGoal change.RemoveGoal h = refl
same_edit-is e f h = absurd (cc)

pub same_edit-decides : (e f : Edit) → Decides (same_edit e f) (e ≡ f)
same_edit-decides = decides-by same_edit same_edit-itself same_edit-is

-- ---- acts

args-decide : (ms ns : List Name) → Decides (pointwise same_name ms ns) (ms ≡ ns)
args-decide ms ns = slice_eq-Decides same_name-decides ms ns (pointwise same_name ms ns) refl

pub same_act-decides : (a b : Act) → Decides (same_act a b) (a ≡ b)
same_act-decides =
    decides-by same_act
    (λ a. and_from (same_name a.action a.action) (pointwise same_name a.args a.args) (name_itself a.action) ((args-decide a.args a.args).1 refl))
    (λ a b h.
    let parts = and_parts (same_name a.action b.action) (pointwise same_name a.args b.args) h in
    let args : a.args ≡ b.args = (args-decide a.args b.args).0 parts.1 in
    λ i. record { action = same_name-is a.action b.action parts.0 i; args = args i })

pub same_acts-decides : (xs ys : List Act) → Decides (same_acts xs ys) (xs ≡ ys)
same_acts-decides xs ys = slice_eq-Decides same_act-decides xs ys (same_acts xs ys) refl

-- ---- what holds no arguments

pub same_query-decides : (q r : Query) → Decides (same_query q r) (q ≡ r)
same_query-decides = is_same_decides a_query.the_row.coded

pub same_outcome-decides : (o p : Outcome) → Decides (same_outcome o p) (o ≡ p)
same_outcome-decides = is_same_decides an_outcome.the_row.coded

pub same_cause-decides : (why other : Refusal) → Decides (same_cause why other) (first_alike why ≡ first_alike other)
same_cause-decides why other = is_same_decides a_refusal.the_row.coded (first_alike why) (first_alike other)

alike-printed : (names : Table) (why : Refusal) → refusal_text names (first_alike why) ≡ refusal_text names why
alike-printed names (refusal.Line cause) = refl
alike-printed names (refusal.Edit r) = refl
alike-printed names (refusal.Ground (grounding.NoInstance n)) = refl
alike-printed names (refusal.Ground (grounding.Arity want got)) = refl
alike-printed names (refusal.Ground (grounding.WrongType at)) = refl
alike-printed names (refusal.Ground grounding.NoAction) = refl
alike-printed names (refusal.Plan r) = refl
alike-printed names (refusal.PlanText r) = refl
alike-printed names refusal.NoGoal = refl
alike-printed names refusal.NoPlan = refl
alike-printed names (refusal.Spent depth) = refl
alike-printed names refusal.TooMany = refl
alike-printed names refusal.NoRun = refl
alike-printed names refusal.NoPredicate = refl
alike-printed names refusal.NoAction = refl

pub sameness_decides : SamenessDecides
sameness_decides = record {
  edits = same_edit-decides;
  plans = same_acts-decides;
  queries = same_query-decides;
  outcomes = same_outcome-decides;
  causes = same_cause-decides;
  printed = alike-printed;
}
