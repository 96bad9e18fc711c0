-- What a name's mark is not.
use Rattle.std.proofs.Common.{◌≡◌, Bool, true, false, None, refl, ap}
use Rattle.std.proofs.lemmas.Bool.{eqb-true, false_from_ne_true}
use denote.Enum.Bare.{tag_one}
use denote.Enum.Declared.{tag_of}
use Rattle.ps_grammar.specs.contracts.marks.Mark.{the_type}
use Rattle.ps_grammar.specs.Marks.{is, is_name, is_fact_name, is_predicate_name}
use Rattle.ps_grammar.specs.declared.marks.Mark.{Mark}
use Rattle.ps_grammar.specs.declared.marks.Mark.TheVariants as mark
use Rattle.ps_conditions.specs.Signs.{head_of, rel_of}
use Rattle.ps_conditions.specs.declared.signs.Head.TheVariants.{Plain}
use Rattle.ps_lists.specs.Conditions.{is_relation}
use Rattle.ps_pddl.specs.Effects.{change_of}
use Rattle.ps_conditions.specs.Signs.{operator_of}

-- two marks of which a test tells one from the other are not the same
pub isnt-by : (P : Mark → Bool) (k m : Mark) → P m ≡ true → P k ≡ false → is k m ≡ false
isnt-by P k m p q =
    false_from_ne_true (is k m) (λ e.
    let same : m ≡ k = tag_one the_type tt m k (eqb-true (tag_of the_type m) (tag_of the_type k) e) in
    let other : P m ≡ P k = ap P same in
    absurd (cc))

-- a name is no mark that is none of a name
pub name-isnt : (k m : Mark) → is_name m ≡ true → is_name k ≡ false → is k m ≡ false
name-isnt k m p q = isnt-by is_name k m p q

-- nor is the name of a predicate `and` or `not`
pub predicate-isnt : (k m : Mark) → is_predicate_name m ≡ true → is_predicate_name k ≡ false → is k m ≡ false
predicate-isnt k m p q = isnt-by is_predicate_name k m p q

-- a name is no operation
pub operator_of-name : (m : Mark) → is_name m ≡ true → operator_of m ≡ None
operator_of-name mark.Plus h = absurd (cc)
operator_of-name mark.Minus h = absurd (cc)
operator_of-name mark.Times h = absurd (cc)
operator_of-name mark.Divide h = absurd (cc)
operator_of-name m h = refl

-- a name is no comparison
pub rel_of-name : (m : Mark) → is_name m ≡ true → rel_of m ≡ None
rel_of-name mark.Less h = absurd (cc)
rel_of-name mark.LessEqual h = absurd (cc)
rel_of-name mark.Equal h = absurd (cc)
rel_of-name mark.GreaterEqual h = absurd (cc)
rel_of-name mark.Greater h = absurd (cc)
rel_of-name m h = refl

-- the name of a predicate is no change of a number
pub change_of-predicate : (m : Mark) → is_predicate_name m ≡ true → change_of m ≡ None
change_of-predicate mark.Assign h = absurd (cc)
change_of-predicate mark.Increase h = absurd (cc)
change_of-predicate mark.Decrease h = absurd (cc)
change_of-predicate mark.ScaleUp h = absurd (cc)
change_of-predicate mark.ScaleDown h = absurd (cc)
change_of-predicate m h = refl

-- the head of a fact is no form's own word
pub head_of-fact : (m : Mark) → is_fact_name m ≡ true → head_of m ≡ Plain
head_of-fact mark.And h = absurd (cc)
head_of-fact mark.Or h = absurd (cc)
head_of-fact mark.Not h = absurd (cc)
head_of-fact mark.Imply h = absurd (cc)
head_of-fact mark.Exists h = absurd (cc)
head_of-fact mark.Forall h = absurd (cc)
head_of-fact m h = refl

-- nor is the name of a predicate
pub head_of-predicate : (m : Mark) → is_predicate_name m ≡ true → head_of m ≡ Plain
head_of-predicate mark.And h = absurd (cc)
head_of-predicate mark.Or h = absurd (cc)
head_of-predicate mark.Not h = absurd (cc)
head_of-predicate mark.Imply h = absurd (cc)
head_of-predicate mark.Exists h = absurd (cc)
head_of-predicate mark.Forall h = absurd (cc)
head_of-predicate m h = refl

-- nor the sign of a comparison
pub head_of-relation : (m : Mark) → is_relation m ≡ true → head_of m ≡ Plain
head_of-relation mark.Less h = refl
head_of-relation mark.LessEqual h = refl
head_of-relation mark.Equal h = refl
head_of-relation mark.GreaterEqual h = refl
head_of-relation mark.Greater h = refl
head_of-relation m h = absurd (cc)
