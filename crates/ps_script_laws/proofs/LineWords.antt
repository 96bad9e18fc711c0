-- The words of what a line says of names, facts, values and goals, and their classes.
use Rattle.std.proofs.Common.{◌≡◌, ℕ, IsSome, List, [], ◌∷◌, ◌++◌, map, length, codes, refl, sym, ap, ◌∙◌, append-nil}
use Rattle.std.proofs.lemmas.List.Elements.{All-nil}
use Rattle.ps_world.specs.Names.{Table, name_text}
use Rattle.ps_world.specs.DomainTexts as text
use Rattle.ps_world.specs.Texts.{args_text, fact_text}
use Rattle.ps_world.specs.Trees.{CondTree, holds}
use Rattle.ps_world.specs.declared.facts.Fact.{Fact}
use Rattle.ps_world.specs.declared.names.Name.{Name}
use Rattle.ps_world.specs.declared.schemas.Term.TheVariants.{Const}
use Rattle.ps_text.specs.Names.{AreNames}
use Rattle.ps_text.specs.Tokens.{class_of}
use Rattle.ps_text.specs.Words.{words}
use Rattle.ps_text.specs.declared.lexing.Class.TheVariants as class
use Rattle.ps_print.specs.CanonicalWords.{cond_words, IsNameOf, IsParamOf, IsCondOf}
use Rattle.ps_print.proofs.Writing.{Writes, one_word}
use Rattle.ps_print.proofs.CanonicalWords as printed
use Rattle.ps_print.proofs.CanonicalWords.{is_run-name}
use Rattle.ps_pddl.proofs.WordClasses as classes
use Rattle.ps_pddl.proofs.WordClasses.{Classed, class_of-name, some_class}
use Rattle.ps_script_laws.proofs.GoalMeanings.{lifted_fact}

-- a text that ends with its last word
pub words-written : {text : List ℕ} {ws : List (List ℕ)} → Writes text ws → words text ≡ ws
words-written {text} {ws} p = ap words (sym (append-nil text)) ∙ p.writes [] refl ∙ append-nil ws

-- ---- what a line says, where its names stand in the table

module _ (names : Table) (good : AreNames names) where
  abbrev count : ℕ
  count = length names

  pub name : (n : Name) → IsNameOf count n → Writes (name_text names n) (name_text names n ∷ [])
  name n h = one_word (name_text names n) (is_run-name (name_text names n) (good.texts n.0 [] h).name)

  pub classed_name : (n : Name) → IsNameOf count n → IsSome (class_of (name_text names n))
  classed_name n h = some_class (class_of (name_text names n)) class.Name (class_of-name (name_text names n) (good.texts n.0 [] h).name)

  -- a goal's words, in which no variable stands but those that it binds
  pub condition : (c : CondTree) → IsCondOf count [] c → Writes (text.cond_text names [] c) (cond_words names [] c)
  condition c h = printed.condition names good [] (All-nil (IsParamOf count)) c h

  pub classed_cond : (c : CondTree) → IsCondOf count [] c → Classed (cond_words names [] c)
  classed_cond c h = classes.classed_cond names good [] (All-nil (IsParamOf count)) c h

-- ---- facts

args-terms : (names : Table) (ns : List Name) → args_text names ns ≡ text.after_spaces (map (text.term_text names []) (map Const ns))
args-terms names [] = refl
args-terms names (n ∷ ns) = ap (λ more. (codes " " ++ name_text names n) ++ more) (args-terms names ns)

-- a fact's text is that of the condition that it is known
pub fact-text : (names : Table) (f : Fact) → fact_text names f ≡ text.cond_text names [] (holds (lifted_fact f))
fact-text names f = ap (λ more. codes "(" ++ (name_text names f.head ++ (more ++ codes ")"))) (args-terms names f.args)
