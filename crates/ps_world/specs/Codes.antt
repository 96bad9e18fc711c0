-- The codes of what conditions are made of. A code tells values apart, and tests them (Same.antt).
use Rattle.std.specs.Prelude.{◌≡◌, ℕ, ◌⊎◌, List, refl}
use Rattle.std.specs.Coded.{Coded, code_by, coded_ℕ, coded_ℤ, coded×, coded⊎}
use Rattle.std.proofs.Common.{inl, inr, ap}
use base.Stored.{gnum, num}
use denote.Enum.Bare.{tag_one}
use denote.Enum.Declared.{tag_of}
use Rattle.ps_world.specs.Same.{code_of_list}
use Rattle.ps_world.specs.contracts.expressions.Op as op
use Rattle.ps_world.specs.contracts.conditions.Rel as rel
use Rattle.ps_world.specs.declared.names.Name.{Name}
use Rattle.ps_world.specs.declared.numbers.Num.{Num}
use Rattle.ps_world.specs.declared.expressions.Op.{Op}
use Rattle.ps_world.specs.declared.conditions.Rel.{Rel}
use Rattle.ps_world.specs.declared.domains.Param.{Param}
use Rattle.ps_world.specs.declared.schemas.Lifted.{Lifted}
use Rattle.ps_world.specs.declared.schemas.Term.{Term}
use Rattle.ps_world.specs.declared.schemas.Term.TheVariants.{Var, Const}

-- a name is told by its number
abbrev pub name_code : Coded Name
name_code = code_by ℕ coded_ℕ (λ n. n.0) (λ k. record { 0 = k }) (λ _. refl)

-- a term as a variable or a name
abbrev pub term_split : Term → ℕ ⊎ Name
term_split (Var v) = inl v
term_split (Const n) = inr n

-- the term that a variable or a name is
abbrev pub term_joined : ℕ ⊎ Name → Term
term_joined (inl v) = Var v
term_joined (inr n) = Const n

pub term_joined_split : (t : Term) → term_joined (term_split t) ≡ t
term_joined_split (Var v) = refl
term_joined_split (Const n) = refl

-- a term is told by its kind and its number
abbrev pub term_code : Coded Term
term_code = code_by (ℕ ⊎ Name) (coded⊎ coded_ℕ name_code) term_split term_joined term_joined_split

-- a list of terms is told by its terms
abbrev pub terms_code : Coded (List Term)
terms_code = code_of_list term_code

-- a fact with parameters is told by its head and its terms
abbrev pub lifted_code : Coded Lifted
lifted_code = code_by (Name × List Term) (coded× name_code terms_code) (λ l. (l.head, l.terms)) (λ p. record { head = p.0; terms = p.1 }) (λ _. refl)

-- a number is told by its count
abbrev pub num_code : Coded Num
num_code = coded_ℤ

-- an operation is told by its place among the operations
abbrev pub op_code : Coded Op
op_code = record { code = λ o. gnum (tag_of op.the_type o); inj = λ x y p. tag_one op.the_type tt x y (ap num p) }

-- a relation is told by its place among the relations
abbrev pub rel_code : Coded Rel
rel_code = record { code = λ r. gnum (tag_of rel.the_type r); inj = λ x y p. tag_one rel.the_type tt x y (ap num p) }

-- a parameter is told by its name and its type
abbrev pub param_code : Coded Param
param_code = code_by (Name × Name) (coded× name_code name_code) (λ p. (p.name, p.kind)) (λ w. record { name = w.0; kind = w.1 }) (λ _. refl)

-- parameters are told by each of them
abbrev pub params_code : Coded (List Param)
params_code = code_of_list param_code
