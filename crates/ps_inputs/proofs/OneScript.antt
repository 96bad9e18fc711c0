-- A script is read as one list of lines at most.
use Rattle.std.proofs.Common.{◌≡◌, List, [], ◌∷◌, ◌++◌, refl, sym, ap, subst, ◌∙◌}
use Rattle.ps_world.specs.Names.{Table}
use Rattle.ps_machine.specs.declared.inputs.Command.TheVariants.{RunPlan}
use Rattle.ps_machine.specs.declared.inputs.Line.{Line}
use Rattle.ps_machine.specs.declared.inputs.Line.TheVariants.{Good}
use Rattle.ps_lists.proofs.Layers.{some_end}
use Rattle.ps_script.specs.declared.reading.Read.{Read}
use Rattle.ps_script.specs.declared.reading.Read.TheVariants as read
use Rattle.ps_script.proofs.OneAnswer.{lines_are_read_as_one}
use Rattle.ps_inputs.specs.Laws.{ScriptsAreReadAsOne}
use Rattle.ps_inputs.specs.Scripts.{Adds, IsScript, given_by, plan_in}
use Rattle.ps_inputs.specs.Scripts.IsScript.{nothing, one_more}
use Rattle.ps_inputs.specs.Flats.{Flattened}
use Rattle.ps_inputs.specs.Flats.Flattened.{plain, with_plan, too_deep}

-- a command line adds one list of lines at most
adds_one : (table : Table) (one : Flattened) (new more : List Line) (after other : Table) → Adds table one new after → Adds table one more other → (new ≡ more) × (after ≡ other)
adds_one table (plain bytes) new more after other h g =
    let same = lines_are_read_as_one table bytes (read.Line h.0) (read.Line g.0) after other h.1 g.1 in
    let one : h.0 ≡ g.0 = (let line : read.Line h.0 ≡ read.Line g.0 = same.0 in cc) in
    (h.2 ∙ ap (λ (l : Line). l ∷ []) one ∙ sym g.2, same.1)
adds_one table (with_plan bytes text) new more after other h g =
    let same = lines_are_read_as_one table bytes h.0 g.0 h.1 g.1 h.2 g.2 in
    let run : Read → Table → List Line = λ r t. given_by (Good (RunPlan (plan_in t text).0)) r in
    (h.3 ∙ ap (λ r. run r h.1) same.0 ∙ ap (run g.0) same.1 ∙ sym g.3, h.4 ∙ ap (λ t. (plan_in t text).1) same.1 ∙ sym g.4)
adds_one table too_deep new more after other h g = (h.0 ∙ sym g.0, h.1 ∙ sym g.1)

-- two lists with an item at their ends are the same only where the items are, and what stands before them
one_end : {A : Type 0} (xs ys : List A) (x y : A) → xs ++ x ∷ [] ≡ ys ++ y ∷ [] → (xs ≡ ys) × (x ≡ y)
one_end [] [] x y p = (refl, cc)
one_end [] (b ∷ []) x y p = absurd (cc)
one_end [] (b ∷ c ∷ ys) x y p = absurd (cc)
one_end (a ∷ []) [] x y p = absurd (cc)
one_end (a ∷ c ∷ xs) [] x y p = absurd (cc)
one_end (a ∷ xs) (b ∷ ys) x y p =
    let same = one_end xs ys x y (cc) in
    let first : a ≡ b = cc in
    (λ i. first i ∷ same.0 i, same.1)

module _ (first : Table) where
  one_script : (script other_script : List Flattened) (lines more : List Line) (after other : Table) → script ≡ other_script → IsScript first script lines after → IsScript first other_script more other → (lines ≡ more) × (after ≡ other)
  one_script _ _ _ _ _ _ p nothing nothing = (refl, refl)
  one_script _ _ _ _ _ _ p nothing (one_more before lines table one new after h a) = absurd (some_end before one (sym p))
  one_script _ _ _ _ _ _ p (one_more before lines table one new after h a) nothing = absurd (some_end before one p)
  one_script _ _ _ _ _ _ p (one_more before lines table one new after h a) (one_more before2 lines2 table2 one2 new2 after2 g b) =
      let ends = one_end before before2 one one2 p in
      let rest = one_script before before2 lines lines2 table table2 ends.0 h g in
      let b' : Adds table one new2 after2 = subst (λ t. Adds t one new2 after2) (sym rest.1) (subst (λ o. Adds table2 o new2 after2) (sym ends.1) b) in
      let added = adds_one table one new new2 after after2 a b' in
      (λ i. rest.0 i ++ added.0 i, added.1)

pub scripts_are_read_as_one : ScriptsAreReadAsOne
scripts_are_read_as_one first script lines more after other h g = one_script first script script lines more after other refl h g
