-- What an accepted edit made of what was known.
use Rattle.std.proofs.Common.{◌≡◌, ◌⊎◌, ◌<◌, ℕ, Bool, true, false, not, if◌then◌else◌, Option, Some, None, is_none, is_some, [], Result, Ok, Err, filter, length, inl, inr, refl, ap, ◌∙◌, nat_le, arith}
use Rattle.std.specs.BTreeMap.{insert_entry}
use Rattle.std.specs.BTreeSet.{insert_key}
use Rattle.std.proofs.lemmas.Bool.Decides.{nat_tests}
use Rattle.ps_world.specs.Names.{name_cmp, same_name}
use Rattle.ps_world.specs.Facts.{fact_cmp}
use Rattle.ps_world.specs.CondViews.{cond_tree}
use Rattle.ps_world.specs.Knowledge.{kind_of, is_type, constant_of, edited, with_instance, without, without_instance, unless, same_fact, is_known, value_in, without_fact, without_value, without_goal, fault_of_fact, fault_of_value, fault_of_cond, most_instances}
use Rattle.ps_world.specs.declared.names.Name.{Name}
use Rattle.ps_world.specs.declared.conditions.Cond.{Cond}
use Rattle.ps_world.specs.declared.domains.Param.{Param}
use Rattle.ps_world.specs.declared.domains.Domain.{Domain}
use Rattle.ps_world.specs.declared.known.Knowledge.{Knowledge}
use Rattle.ps_world.specs.declared.edits.Edit.{Edit}
use Rattle.ps_world.specs.declared.edits.Edit.TheVariants.{AddInstance, RemoveInstance, AddFact, RemoveFact, SetValue, RemoveValue, SetGoal, RemoveGoal}
use Rattle.ps_world.specs.declared.edits.EditRefusal.{EditRefusal}
use Rattle.ps_world.specs.declared.edits.EditRefusal.TheVariants.{NoType, InstanceThere, Full, Constant, NoFact, NoValue}
use Rattle.ps_action.proofs.Facts.{same_name-is}

-- an instance is there already, or there is room for it and it is put in
abbrev pub IsPlaced : Knowledge → Name → Name → Knowledge → Type 0
IsPlaced k n t new =
    ((kind_of k n ≡ Some t) × (new ≡ k)) ⊎ ((kind_of k n ≡ None) × (length k.instances < most_instances) × (new ≡ record k { instances = insert_entry name_cmp k.instances n t }))

-- what an accepted edit made of the knowledge
abbrev pub Accepted : Domain → Knowledge → Edit → Knowledge → Type 0
Accepted d k (AddInstance n t) new = (is_type d t ≡ true) × IsPlaced k n t new
Accepted d k (RemoveInstance n) new = (constant_of d n ≡ None) × (new ≡ without n k)
Accepted d k (AddFact f) new = (fault_of_fact d k f ≡ None) × (new ≡ record k { facts = insert_key fact_cmp k.facts f })
Accepted d k (RemoveFact f) new = new ≡ record k { facts = filter (λ g. not (same_fact f g)) k.facts }
Accepted d k (SetValue f x) new = (fault_of_value d k f ≡ None) × (new ≡ record k { values = insert_entry fact_cmp k.values f x })
Accepted d k (RemoveValue f) new = new ≡ record k { values = filter (λ v. not (same_fact f v.0)) k.values }
Accepted d k (SetGoal goal) new = (fault_of_cond d k [] (cond_tree goal) ≡ None) × (new ≡ record k { goal = Some goal })
Accepted d k RemoveGoal new = new ≡ record k { goal = None }

-- what a test lets through
passed : (b : Bool) (made : Knowledge) (refusal : EditRefusal) (new : Knowledge) → (if b then Ok made else Err refusal) ≡ Ok new → (b ≡ true) × (new ≡ made)
passed true made refusal new e = (refl, cc)
passed false made refusal new e = cc

there : (k new : Knowledge) (n t kind : Name) (b : Bool) → kind_of k n ≡ Some kind → same_name kind t ≡ b → (if b then Ok k else Err InstanceThere) ≡ Ok new → IsPlaced k n t new
there k new n t kind true f s e = inl (f ∙ ap Some (same_name-is kind t s), cc)
there k new n t kind false f s e = cc

room : (count : ℕ) → nat_le most_instances count ≡ false → count < most_instances
room count e = grind (arith, nat_tests)

vacant : (k new : Knowledge) (n t : Name) (b : Bool) → nat_le most_instances (length k.instances) ≡ b → kind_of k n ≡ None → (if b then Err Full else Ok (record k { instances = insert_entry name_cmp k.instances n t })) ≡ Ok new → IsPlaced k n t new
vacant k new n t true r f e = cc
vacant k new n t false r f e = inr (f, room (length k.instances) r, cc)

placed : (k new : Knowledge) (n t : Name) (o : Option Name) → kind_of k n ≡ o → with_instance k n t o ≡ Ok new → IsPlaced k n t new
placed k new n t None f e = vacant k new n t (nat_le most_instances (length k.instances)) refl f e
placed k new n t (Some kind) f e = there k new n t kind (same_name kind t) f refl e

typed : (k new : Knowledge) (n t : Name) (b : Bool) → (if b then with_instance k n t (kind_of k n) else Err NoType) ≡ Ok new → (b ≡ true) × IsPlaced k n t new
typed k new n t true e = (refl, placed k new n t (kind_of k n) refl e)
typed k new n t false e = cc

no_constant : (o : Option Param) → is_none o ≡ true → o ≡ None
no_constant None e = refl
no_constant (Some c) e = cc

left_out : (d : Domain) (k new : Knowledge) (n : Name) (o : Option Name) → without_instance d k n o ≡ Ok new → (constant_of d n ≡ None) × (new ≡ without n k)
left_out d k new n None e = cc
left_out d k new n (Some kind) e =
    let h = passed (is_none (constant_of d n)) (without n k) Constant new e in (no_constant (constant_of d n) h.0, h.1)

unfaulted : (fault : Option EditRefusal) (made : Result Knowledge EditRefusal) (new : Knowledge) → unless fault made ≡ Ok new → (fault ≡ None) × (made ≡ Ok new)
unfaulted None made new e = (refl, e)
unfaulted (Some r) made new e = cc

goal_gone : (k new : Knowledge) (goal : Option Cond) → without_goal k goal ≡ Ok new → new ≡ record k { goal = None }
goal_gone k new None e = cc
goal_gone k new (Some goal) e = cc

pub accepted : (d : Domain) (k : Knowledge) (edit : Edit) (new : Knowledge) → edited d k edit ≡ Ok new → Accepted d k edit new
accepted d k (AddInstance n t) new e = typed k new n t (is_type d t) e
accepted d k (RemoveInstance n) new e = left_out d k new n (kind_of k n) e
accepted d k (AddFact f) new e =
    let h = unfaulted (fault_of_fact d k f) (Ok (record k { facts = insert_key fact_cmp k.facts f })) new e in (h.0, cc)
accepted d k (RemoveFact f) new e =
    let h = unfaulted (fault_of_fact d k f) (without_fact k f) new e in
    (passed (is_known k f) (record k { facts = filter (λ g. not (same_fact f g)) k.facts }) NoFact new h.1).1
accepted d k (SetValue f x) new e =
    let h = unfaulted (fault_of_value d k f) (Ok (record k { values = insert_entry fact_cmp k.values f x })) new e in (h.0, cc)
accepted d k (RemoveValue f) new e =
    let h = unfaulted (fault_of_value d k f) (without_value k f) new e in
    (passed (is_some (value_in k f)) (record k { values = filter (λ v. not (same_fact f v.0)) k.values }) NoValue new h.1).1
accepted d k (SetGoal goal) new e =
    let h = unfaulted (fault_of_cond d k [] (cond_tree goal)) (Ok (record k { goal = Some goal })) new e in (h.0, cc)
accepted d k RemoveGoal new e = goal_gone k new k.goal e
