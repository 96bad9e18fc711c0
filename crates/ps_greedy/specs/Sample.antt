-- What is found of two carts that are carried over three spots, which the definitions compute.
use Rattle.std.specs.Prelude.{◌≡◌, ℕ, pos, Some, List, [], ◌∷◌}
use Rattle.ps_world.specs.declared.names.Name.{Name}
use Rattle.ps_world.specs.declared.schemas.Term.TheVariants.{Var, Const}
use Rattle.ps_world.specs.declared.schemas.Lifted.{Lifted}
use Rattle.ps_world.specs.declared.conditions.Cond.{Cond}
use Rattle.ps_world.specs.declared.conditions.Cond.TheVariants.{And, Holds}
use Rattle.ps_world.specs.declared.expressions.Expr.TheVariants.{Num}
use Rattle.ps_world.specs.declared.actions.Effect.TheVariants.{Add, Delete}
use Rattle.ps_world.specs.declared.actions.ActionDef.{ActionDef}
use Rattle.ps_world.specs.declared.domains.Domain.{Domain}
use Rattle.ps_world.specs.declared.facts.Fact.{Fact}
use Rattle.ps_world.specs.declared.known.Knowledge.{Knowledge}
use Rattle.ps_world.specs.CondViews.{cond_tree}
use Rattle.ps_action.specs.Effects.{plainly}
use Rattle.ps_action.specs.declared.acts.Act.{Act}
use Rattle.ps_marks.specs.Landmarks.{goal_marks, landmarks}
use Rattle.ps_greedy.specs.Greedy.{greedy}
use Rattle.ps_greedy.specs.declared.found.Found.TheVariants.{Plan, NoPlan, Spent}

abbrev pub name : ℕ → Name
name n = record { 0 = n }

-- 1: cart, 2: spot, 3: at, 4: next, 5: carry, 6 to 8: store, aisle, dock, 9 and 10: the carts
abbrev pub at_spot : ℕ → ℕ → Lifted
at_spot c s = record { head = name 3; terms = Const (name c) ∷ Const (name s) ∷ [] }

abbrev pub at_fact : ℕ → ℕ → Fact
at_fact c s = record { head = name 3; args = name c ∷ name s ∷ [] }

abbrev pub next_fact : ℕ → ℕ → Fact
next_fact a b = record { head = name 4; args = name a ∷ name b ∷ [] }

-- a cart is carried from the first spot to the next
abbrev pub carry : ActionDef
carry = record {
  name = name 5;
  params = record { name = name 11; kind = name 1 } ∷ record { name = name 12; kind = name 2 } ∷ record { name = name 13; kind = name 2 } ∷ [];
  duration = Num (pos 2000);
  conditions = record {
    at_start = cond_tree (Holds (record { head = name 3; terms = Var 0 ∷ Var 1 ∷ [] })) ∷ [];
    over_all = cond_tree (Holds (record { head = name 4; terms = Var 1 ∷ Var 2 ∷ [] })) ∷ [];
    at_end = [];
  };
  effects = record {
    at_start = plainly (Delete (record { head = name 3; terms = Var 0 ∷ Var 1 ∷ [] }) ∷ []);
    at_end = plainly (Add (record { head = name 3; terms = Var 0 ∷ Var 2 ∷ [] }) ∷ []);
  };
}

abbrev pub warehouse : Domain
warehouse = record {
  name = name 14;
  types = record { name = name 1; kind = name 0 } ∷ record { name = name 2; kind = name 0 } ∷ [];
  constants = [];
  predicates = record { name = name 3; params = record { name = name 11; kind = name 1 } ∷ record { name = name 12; kind = name 2 } ∷ [] } ∷ record { name = name 4; params = record { name = name 12; kind = name 2 } ∷ record { name = name 13; kind = name 2 } ∷ [] } ∷ [];
  functions = [];
  actions = carry ∷ [];
}

-- both carts are in the store, from which the aisle leads to the dock
abbrev pub in_store : Cond → Knowledge
in_store goal = record {
  instances = (name 6, name 2) ∷ (name 7, name 2) ∷ (name 8, name 2) ∷ (name 9, name 1) ∷ (name 10, name 1) ∷ [];
  facts = at_fact 9 6 ∷ at_fact 10 6 ∷ next_fact 6 7 ∷ next_fact 7 8 ∷ [];
  values = [];
  goal = Some goal;
}

abbrev pub carrying : ℕ → ℕ → ℕ → Act
carrying c a b = record { action = name 5; args = name c ∷ name a ∷ name b ∷ [] }

-- both carts are to be in the dock
abbrev pub both : Knowledge
both = in_store (And (cond_tree (Holds (at_spot 9 8)) ∷ cond_tree (Holds (at_spot 10 8)) ∷ []))

-- one cart is to be in the dock
abbrev pub one : Knowledge
one = in_store (Holds (at_spot 9 8))

-- four carts in the store are to be in the dock
abbrev pub four : Knowledge
four = record {
  instances = (name 6, name 2) ∷ (name 7, name 2) ∷ (name 8, name 2) ∷ (name 15, name 1) ∷ (name 16, name 1) ∷ (name 17, name 1) ∷ (name 18, name 1) ∷ [];
  facts = at_fact 15 6 ∷ at_fact 16 6 ∷ at_fact 17 6 ∷ at_fact 18 6 ∷ next_fact 6 7 ∷ next_fact 7 8 ∷ [];
  values = [];
  goal = Some (And (cond_tree (Holds (at_spot 15 8)) ∷ cond_tree (Holds (at_spot 16 8)) ∷ cond_tree (Holds (at_spot 17 8)) ∷ cond_tree (Holds (at_spot 18 8)) ∷ []));
}

-- a cart is carried to the dock
abbrev pub carried : ℕ → List Act → List Act
carried c more = carrying c 6 7 ∷ carrying c 7 8 ∷ more

-- a cart is in the aisle, and then in the dock
abbrev pub on_way : ℕ → List Fact → List Fact
on_way c more = at_fact c 7 ∷ at_fact c 8 ∷ more

pub record AreSampleMarks : Type 0 where
  pub marks_of_one : landmarks warehouse one ≡ at_fact 9 7 ∷ at_fact 9 8 ∷ []
  pub marks : landmarks warehouse both ≡ at_fact 9 7 ∷ at_fact 9 8 ∷ at_fact 10 7 ∷ at_fact 10 8 ∷ []
  pub goals : goal_marks both ≡ at_fact 9 8 ∷ at_fact 10 8 ∷ []
  pub plan : greedy warehouse both 30 (landmarks warehouse both) ≡ Plan (carrying 9 6 7 ∷ carrying 9 7 8 ∷ carrying 10 6 7 ∷ carrying 10 7 8 ∷ [])
  pub spent : greedy warehouse both 3 (landmarks warehouse both) ≡ Spent
  pub none : greedy warehouse (in_store (Holds (at_spot 9 9))) 30 [] ≡ NoPlan
  pub four_marks : landmarks warehouse four ≡ on_way 15 (on_way 16 (on_way 17 (on_way 18 [])))
  pub four_plan : greedy warehouse four 30 (landmarks warehouse four) ≡ Plan (carried 15 (carried 16 (carried 17 (carried 18 []))))
