-- A line that says a fact in plain names fits.
use Rattle.std.proofs.Common.{◌≡◌, append-nil, subst, sym, ◌≤◌, ◌<◌, ◌-◌, nat_lt, ℕ, zero, suc, true, ◌&&◌, ◌||◌, List, [], ◌∷◌, ◌++◌, None, Some, refl, inl, inr, arith}
use Rattle.std.proofs.lemmas.Bool.{and_parts, cases_Bool}
use Rattle.ps_grammar.specs.Marks.{is}
use Rattle.ps_grammar.specs.Symbols.{level}
use Rattle.ps_grammar.specs.Rules.{most_names, step}
use Rattle.ps_grammar.specs.Shape.{IsShallowFrom, next_wanted}
use Rattle.ps_grammar.specs.Shape.Derives.{nothing, by_rule}
use Rattle.ps_grammar.specs.declared.marks.Mark.{Mark}
use Rattle.ps_grammar.specs.declared.marks.Mark.TheVariants.{Open, Close, At, Equal, Name, Number}
use Rattle.ps_grammar.specs.declared.symbols.Symbol.{Symbol}
use Rattle.ps_grammar.specs.declared.symbols.Symbol.TheVariants.{The, AnyName, InGoal}
use Rattle.ps_grammar.specs.declared.symbols.GoalPart.TheVariants as goal
use Rattle.ps_grammar.proofs.SameMarks.{mark_is}
use Rattle.ps_script.specs.FactLines.{are_names, is_fact, is_last, says_fact}
use Rattle.ps_script.specs.Judged.{Fits}

pub shallow_end : (st : List Symbol) → IsShallowFrom st []
shallow_end st zero deep = absurd (cc)
shallow_end st (suc at) deep = absurd (cc)

shallow_next : (st next : List Symbol) (m : Mark) (ms : List Mark) → level st < 64 → next_wanted st m ≡ Some next → IsShallowFrom next ms → IsShallowFrom st (m ∷ ms)
shallow_next st next m ms low e rest zero deep = absurd (omega (arith, low, deep.1))
shallow_next st next m ms low e rest (suc at) deep = rest at (rw e at deep)

-- one mark more fits
fits_next : (s : Symbol) (st new : List Symbol) (m : Mark) (ms : List Mark) → level (s ∷ st) < 64 → step s m ≡ Some new → Fits (new ++ st) ms None → Fits (s ∷ st) (m ∷ ms) None
fits_next s st new m ms low e fits =
    (by_rule s st m ms new e fits.0, shallow_next (s ∷ st) (new ++ st) m ms low (rw e refl) fits.1)

names_end : (most : ℕ) (st : List Symbol) (m : Mark) (ms more : List Mark) → level st ≤ 8 → is Close m ≡ true → is_last ms ≡ true → Fits st more None → Fits (InGoal (goal.Names most) ∷ st) (m ∷ (ms ++ more)) None
names_end most st m [] more low e last fits = rw (mark_is Close m e) (fits_next (InGoal (goal.Names most)) st [] Close more (omega (arith, low)) refl fits)
names_end most st m (n ∷ ms) more low e last fits = absurd (cc)

names_fit : (most : ℕ) (st : List Symbol) (ms more : List Mark) → level st ≤ 8 → are_names most ms ≡ true → Fits st more None → Fits (InGoal (goal.Names most) ∷ st) (ms ++ more) None
names_fit most st [] more low e fits = absurd (cc)
names_fit zero st (m ∷ ms) more low e fits =
    elim (cases_Bool (is Close m)) [
      | inl ends ↦ names_end zero st m ms more low ends (rw ends at e) fits
      | inr goes_on ↦
          let none : (nat_lt 0 0 && is Name m && are_names (0 - 1) ms) ≡ true = rw goes_on at e in
          absurd (cc)
    ]
names_fit (suc most) st (m ∷ ms) more low e fits =
    elim (cases_Bool (is Close m)) [
      | inl ends ↦ names_end (suc most) st m ms more low ends (rw ends at e) fits
      | inr goes_on ↦
          let all : (nat_lt 0 (suc most) && is Name m && are_names (suc most - 1) ms) ≡ true = rw goes_on at e in
          let parts = and_parts (nat_lt 0 (suc most) && is Name m) (are_names (suc most - 1) ms) all in
          let name = and_parts (nat_lt 0 (suc most)) (is Name m) parts.0 in
          let one : suc most - 1 ≡ most = omega arith in
          let rest : are_names most ms ≡ true = rw one at parts.1 in
          subst (λ (x : Mark). Fits (InGoal (goal.Names (suc most)) ∷ st) (x ∷ (ms ++ more)) None) (sym (mark_is Name m name.1))
          (fits_next (InGoal (goal.Names (suc most))) st (InGoal (goal.Names most) ∷ []) Name (ms ++ more) (omega (arith, low)) refl (names_fit most st ms more low rest fits))
    ]

head_fits : (m : Mark) → (is Name m || is At m) ≡ true → step AnyName m ≡ Some []
head_fits m e =
    elim (cases_Bool (is Name m)) [
      | inl name ↦ rw (mark_is Name m name) refl
      | inr other ↦
          let here : is At m ≡ true = rw other at e in
          rw (mark_is At m here) refl
    ]

-- a fact fits, whatever is wanted after it
fact_fits : (st : List Symbol) (ms more : List Mark) → level st ≤ 8 → is_fact ms ≡ true → Fits st more None → Fits (InGoal goal.Atom ∷ st) (ms ++ more) None
fact_fits st [] more low e fits = absurd (cc)
fact_fits st (l ∷ []) more low e fits = absurd (cc)
fact_fits st (l ∷ h ∷ ms) more low e fits =
    let parts = and_parts (is Open l && (is Name h || is At h)) (are_names most_names ms) e in
    let front = and_parts (is Open l) (is Name h || is At h) parts.0 in
    let names : Fits (InGoal (goal.Names most_names) ∷ st) (ms ++ more) None = names_fit most_names st ms more low parts.1 fits in
    let named : Fits (AnyName ∷ InGoal (goal.Names most_names) ∷ st) (h ∷ (ms ++ more)) None = fits_next AnyName (InGoal (goal.Names most_names) ∷ st) [] h (ms ++ more) (omega (arith, low)) (head_fits h front.1) names in
    subst (λ (x : Mark). Fits (InGoal goal.Atom ∷ st) (x ∷ h ∷ (ms ++ more)) None) (sym (mark_is Open l front.0))
    (fits_next (InGoal goal.Atom) st (AnyName ∷ InGoal (goal.Names most_names) ∷ []) Open (h ∷ (ms ++ more)) (omega (arith, low)) refl named)

pub word_fits : (st : List Symbol) (m : Mark) (ms : List Mark) → level (AnyName ∷ st) < 64 → is Name m ≡ true → Fits st ms None → Fits (AnyName ∷ st) (m ∷ ms) None
word_fits st m ms low e fits = rw (mark_is Name m e) (fits_next AnyName st [] Name ms low refl fits)

-- such a line fits
pub fact_lines_fit : (ms : List Mark) → says_fact ms ≡ true → Fits (AnyName ∷ AnyName ∷ InGoal goal.Atom ∷ []) ms None
fact_lines_fit [] e = absurd (cc)
fact_lines_fit (a ∷ []) e = absurd (cc)
fact_lines_fit (a ∷ b ∷ ms) e =
    let parts = and_parts (is Name a && is Name b) (is_fact ms) e in
    let front = and_parts (is Name a) (is Name b) parts.0 in
    word_fits (AnyName ∷ InGoal goal.Atom ∷ []) a (b ∷ ms) (omega arith) front.0
    (word_fits (InGoal goal.Atom ∷ []) b ms (omega arith) front.1
    (subst (λ (x : List Mark). Fits (InGoal goal.Atom ∷ []) x None) (append-nil ms) (fact_fits [] ms [] (omega arith) parts.1 (nothing, shallow_end []))))

-- and so does one that gives a function a value
pub value_lines_fit : (fact : List Mark) → is_fact fact ≡ true → Fits (AnyName ∷ AnyName ∷ The Open ∷ The Equal ∷ InGoal goal.Atom ∷ The Number ∷ The Close ∷ []) (Name ∷ Name ∷ Open ∷ Equal ∷ (fact ++ Number ∷ Close ∷ [])) None
value_lines_fit fact e =
    let end : Fits (The Number ∷ The Close ∷ []) (Number ∷ Close ∷ []) None = fits_next (The Number) (The Close ∷ []) [] Number (Close ∷ []) (omega arith) refl (fits_next (The Close) [] [] Close [] (omega arith) refl (nothing, shallow_end [])) in
    let inside : Fits (InGoal goal.Atom ∷ The Number ∷ The Close ∷ []) (fact ++ Number ∷ Close ∷ []) None = fact_fits (The Number ∷ The Close ∷ []) fact (Number ∷ Close ∷ []) (omega arith) e end in
    let equal : Fits (The Equal ∷ InGoal goal.Atom ∷ The Number ∷ The Close ∷ []) (Equal ∷ (fact ++ Number ∷ Close ∷ [])) None = fits_next (The Equal) (InGoal goal.Atom ∷ The Number ∷ The Close ∷ []) [] Equal (fact ++ Number ∷ Close ∷ []) (omega arith) refl inside in
    let left : Fits (The Open ∷ The Equal ∷ InGoal goal.Atom ∷ The Number ∷ The Close ∷ []) (Open ∷ Equal ∷ (fact ++ Number ∷ Close ∷ [])) None = fits_next (The Open) (The Equal ∷ InGoal goal.Atom ∷ The Number ∷ The Close ∷ []) [] Open (Equal ∷ (fact ++ Number ∷ Close ∷ [])) (omega arith) refl equal in
    fits_next AnyName (AnyName ∷ The Open ∷ The Equal ∷ InGoal goal.Atom ∷ The Number ∷ The Close ∷ []) [] Name (Name ∷ Open ∷ Equal ∷ (fact ++ Number ∷ Close ∷ [])) (omega arith) refl
    (fits_next AnyName (The Open ∷ The Equal ∷ InGoal goal.Atom ∷ The Number ∷ The Close ∷ []) [] Name (Open ∷ Equal ∷ (fact ++ Number ∷ Close ∷ [])) (omega arith) refl left)
