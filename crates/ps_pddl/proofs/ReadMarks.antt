-- Tests of marks, and which way a test goes.
use Rattle.std.proofs.Common.{◌≡◌, Bool, true, false, None, refl}
use Rattle.std.specs.Bool.{if◌then◌else◌}
use Rattle.ps_grammar.specs.Marks.{is_change, is_fact_name, is_name, is_predicate_name}
use Rattle.ps_grammar.specs.declared.marks.Mark.{Mark}
use Rattle.ps_grammar.specs.declared.marks.Mark.TheVariants as mark
use Rattle.ps_lists.specs.Conditions.{is_relation}
use Rattle.ps_conditions.specs.Signs.{rel_of}
use Rattle.ps_pddl.specs.Effects.{change_of}
use Rattle.ps_pddl.specs.Steps.{Read}
use Rattle.ps_pddl.proofs.Sound.{Sound}

-- ---- the way of a test

-- what the test leads to has what the side has that it takes
pub yes_has : {A : Type 0} (P : A → Type 0) (b : Bool) (x y : A) → b ≡ true → P x → P (if b then x else y)
yes_has P true x y e h = h
yes_has P false x y e h = absurd (cc)

pub no_has : {A : Type 0} (P : A → Type 0) (b : Bool) (x y : A) → b ≡ false → P y → P (if b then x else y)
no_has P true x y e h = absurd (cc)
no_has P false x y e h = h

pub yes_sound : {A : Type 0} (P : A → Type 0) (b : Bool) (x y : Read A) → b ≡ true → Sound P x → Sound P (if b then x else y)
yes_sound P b x y e h = yes_has (Sound P) b x y e h

pub no_sound : {A : Type 0} (P : A → Type 0) (b : Bool) (x y : Read A) → b ≡ false → Sound P y → Sound P (if b then x else y)
no_sound P b x y e h = no_has (Sound P) b x y e h

-- ---- heads

pub fact-is_name : (m : Mark) → is_fact_name m ≡ true → is_name m ≡ true
fact-is_name mark.And e = absurd (cc)
fact-is_name m e = cc

pub predicate-is_name : (m : Mark) → is_predicate_name m ≡ true → is_name m ≡ true
predicate-is_name mark.And e = absurd (cc)
predicate-is_name m e = cc

-- the head of a fact is no comparison
pub fact_no_rel : (m : Mark) → is_fact_name m ≡ true → rel_of m ≡ None
fact_no_rel mark.Less e = absurd (cc)
fact_no_rel mark.LessEqual e = absurd (cc)
fact_no_rel mark.Equal e = absurd (cc)
fact_no_rel mark.GreaterEqual e = absurd (cc)
fact_no_rel mark.Greater e = absurd (cc)
fact_no_rel m e = refl

-- a comparison has its relation
pub relation_there : (m : Mark) → is_relation m ≡ true → rel_of m ≡ None → ⊥
relation_there mark.Less r e = cc
relation_there mark.LessEqual r e = cc
relation_there mark.Equal r e = cc
relation_there mark.GreaterEqual r e = cc
relation_there mark.Greater r e = cc
relation_there m r e = cc

-- a change has its operation
pub change_there : (m : Mark) → is_change m ≡ true → change_of m ≡ None → ⊥
change_there mark.Assign c e = cc
change_there mark.Increase c e = cc
change_there mark.Decrease c e = cc
change_there mark.ScaleUp c e = cc
change_there mark.ScaleDown c e = cc
change_there m c e = cc
