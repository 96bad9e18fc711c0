-- What the heads of conditions and the signs of comparisons and operations are.
use Rattle.std.specs.Prelude.{Bool, true, false, Option, Some, None}
use Rattle.ps_world.specs.declared.conditions.Rel.{Rel}
use Rattle.ps_world.specs.declared.conditions.Rel.TheVariants.{Lt, Le, Eq, Ge, Gt}
use Rattle.ps_world.specs.declared.expressions.Op.{Op}
use Rattle.ps_world.specs.declared.expressions.Op.TheVariants.{Add, Sub, Mul, Div}
use Rattle.ps_grammar.specs.declared.marks.Mark.{Mark}
use Rattle.ps_conditions.specs.declared.signs.Head.{Head}
use Rattle.ps_conditions.specs.declared.signs.Head.TheVariants.{All, Any, No, Implied, ForSome, ForAll, Plain}
use Rattle.ps_grammar.specs.declared.marks.Mark.TheVariants.{And, Or, Not, Imply, Exists, Forall, Plus, Minus, Times, Divide, Equal, Less, Greater, LessEqual, GreaterEqual}

-- the form of a condition that begins with this word
abbrev pub head_of : Mark → Head
head_of And = All
head_of Or = Any
head_of Not = No
head_of Imply = Implied
head_of Exists = ForSome
head_of Forall = ForAll
head_of m = Plain

-- whether a form has no word of its own
abbrev pub is_plain : Head → Bool
is_plain Plain = true
is_plain head = false

-- what there is for each form
pub record Forms (A : Type 0) : Type 0 where
  pub all : A
  pub any : A
  pub no : A
  pub implied : A
  pub for_some : A
  pub for_all : A
  pub plain : A

-- what there is for this one
abbrev pub by_head : {A : Type 0} → Head → Forms A → A
by_head All forms = forms.all
by_head Any forms = forms.any
by_head No forms = forms.no
by_head Implied forms = forms.implied
by_head ForSome forms = forms.for_some
by_head ForAll forms = forms.for_all
by_head Plain forms = forms.plain

-- the comparison with this sign
abbrev pub rel_of : Mark → Option Rel
rel_of Less = Some Lt
rel_of LessEqual = Some Le
rel_of Equal = Some Eq
rel_of GreaterEqual = Some Ge
rel_of Greater = Some Gt
rel_of m = None

-- the operation with this sign
abbrev pub operator_of : Mark → Option Op
operator_of Plus = Some Add
operator_of Minus = Some Sub
operator_of Times = Some Mul
operator_of Divide = Some Div
operator_of m = None
