-- What is printed of edits, queries and acts is read back.
use Rattle.std.proofs.Common.{◌≡◌, ℕ, ℤ, true, None, Some, IsSome, All, List, [], ◌∷◌, ◌++◌, map, length, codes, refl, sym, ap, ◌∙◌, subst, arith}
use Rattle.std.proofs.lemmas.List.{length-map}
use Rattle.std.proofs.lemmas.List.Elements.{All-nil, All-cons, All-head, All-tail}
use Rattle.ps_world.specs.CondViews.{cond_tree}
use Rattle.ps_world.specs.DomainTexts.{cond_text}
use Rattle.ps_world.specs.Names.{Table, name_text}
use Rattle.ps_world.specs.Numbers.{IsCount, number_text}
use Rattle.ps_world.specs.Texts.{fact_text, value_text}
use Rattle.ps_world.specs.Trees.{CondTree, compares, holds, number, value_of}
use Rattle.ps_world.specs.declared.conditions.Cond.{Cond}
use Rattle.ps_world.specs.declared.conditions.Rel.TheVariants as rel
use Rattle.ps_world.specs.declared.edits.Edit.TheVariants as edit
use Rattle.ps_world.specs.declared.facts.Fact.{Fact}
use Rattle.ps_world.specs.declared.names.Name.{Name}
use Rattle.ps_world.specs.declared.schemas.Lifted.{Lifted}
use Rattle.ps_world.specs.declared.schemas.Term.TheVariants.{Const}
use Rattle.ps_machine.specs.declared.inputs.Command.{Command}
use Rattle.ps_machine.specs.declared.inputs.Command.TheVariants as command
use Rattle.ps_machine.specs.declared.inputs.Query.TheVariants as query
use Rattle.ps_text.specs.Names.{AreNames, Keeps}
use Rattle.ps_text.specs.Tokens.{class_of}
use Rattle.ps_text.specs.Words.{words}
use Rattle.ps_text.specs.declared.lexing.Class.TheVariants as class
use Rattle.ps_text.proofs.TextTokens.{texts_have_tokens}
use Rattle.ps_grammar.specs.Marks.{is_name}
use Rattle.ps_grammar.specs.declared.marks.Mark.TheVariants as mark
use Rattle.ps_grammar.specs.declared.symbols.GoalPart.TheVariants as goal
use Rattle.ps_grammar.specs.declared.symbols.Symbol.{Symbol}
use Rattle.ps_grammar.specs.declared.symbols.Symbol.TheVariants.{The, AnyName, InGoal}
use Rattle.ps_lists.specs.Lexemes.{lexemes_of, mark_of}
use Rattle.ps_lists.specs.Nested.{Nested, Nesteds, word, group, none, more}
use Rattle.ps_lists.specs.Places.{head, items, items_at, rest}
use Rattle.ps_lists.proofs.OneWord as one
use Rattle.ps_lists.proofs.Taking.{IsDone, Takes, TakesAll}
use Rattle.ps_print.specs.CanonicalWords.{cond_words, IsCondOf, IsLiftedOf, IsNameOf, IsTermOf}
use Rattle.ps_print.proofs.Writing.{Whole, later_blank, whole_writes, writes_later}
use Rattle.ps_script.specs.Commands.{command_of, valued}
use Rattle.ps_script.specs.Forms.{form_of, start_of}
use Rattle.ps_script.specs.Goals.{fact_of, first_condition}
use Rattle.ps_script.specs.Lines.{IsOfForm, IsPlain}
use Rattle.ps_script.specs.Lines.IsRead.{good}
use Rattle.ps_script.specs.declared.forms.Form.{Form}
use Rattle.ps_script.specs.declared.forms.Form.TheVariants as form
use Rattle.ps_script.specs.Judged.IsJudged.{fitting}
use Rattle.ps_script.specs.Scopes.{stray, strays}
use Rattle.ps_pddl.proofs.CanonicalForms.{IsCondForm, IsLiftedForm}
use Rattle.ps_pddl.proofs.CanonicalForms.IsCondForm.{comparison_form, fact_form}
use Rattle.ps_pddl.proofs.CanonicalForms.IsExprForm.{a_number, a_value}
use Rattle.ps_pddl.proofs.Fits.{BindsFree}
use Rattle.ps_pddl.proofs.SpeltWords.{AllSpelt, is_plain}
use Rattle.ps_pddl.proofs.WordLexemes.{AreLexemes, are_lexemes}
use Rattle.ps_pddl.proofs.WordClasses.{Classed, classed_more, classed_none}
use Rattle.ps_script_laws.specs.Laws.{ActsAreReadBack, EditsAreReadBack, IsReadAs, QueriesAreReadBack}
use Rattle.ps_script_laws.specs.Sayable.{IsFactOf, IsGoalOf, IsShort}
use Rattle.ps_script_laws.specs.WordNames.{with_words}
use Rattle.ps_script_laws.proofs.GoalMarks.{atom_taken, condition_taken}
use Rattle.ps_script_laws.proofs.GoalMeanings.{fact-means, goal-means, lifted_fact}
use Rattle.ps_script_laws.proofs.GoalScopes.{cond_stays, expr_stays, lifted_stays}
use Rattle.ps_script_laws.proofs.LineForms.{AreNamed, Fixed, IsOneCond, cond_spelt, fixed_first, fixed_rest, fixed_stays, fixed_taken, heads_free, named_stays, named_taken, one_cond_stays, no_names_spelt, one_name_spelt, two_names_spelt}
use Rattle.ps_script_laws.proofs.LineLexing.{after_text, lexemes_kept}
use Rattle.ps_lists.proofs.TakenLines.{TakesLine, judged_of_line}
use Rattle.ps_script_laws.proofs.LineWords.{classed_cond, classed_name, condition, fact-text, name, words-written}

-- ---- fixed words

-- a fixed word is a name
record IsFixed (w : List ℕ) : Type 0 where
  of_class : class_of w ≡ Some class.Name
  no_paren : is_plain (mark_of class.Name w) ≡ true
  of_name : is_name (mark_of class.Name w) ≡ true

fixed_class : {w : List ℕ} → IsFixed w → IsSome (class_of w)
fixed_class {w} h = subst IsSome (sym h.of_class) refl

-- these names stand where they are told
name_at : (names : Table) (n : Name) (ns : List Name) (us : Nesteds) → AreNamed names (n ∷ ns) us → (head us).name ≡ n
name_at names n ns none h = absurd h
name_at names n ns (more (group ts) us) h = absurd h
name_at names n ns (more (word l) us) h = h.0.name

names_after : (names : Table) (n : Name) (ns : List Name) (us : Nesteds) → AreNamed names (n ∷ ns) us → AreNamed names ns (rest us)
names_after names n ns none h = absurd h
names_after names n ns (more (group ts) us) h = absurd h
names_after names n ns (more (word l) us) h = h.1

-- ---- facts

terms-known : (count : ℕ) (ns : List Name) → All (IsNameOf count) ns → All (IsTermOf count 0) (map Const ns)
terms-known count [] h = All-nil (IsTermOf count 0)
terms-known count (n ∷ ns) h = All-cons (IsTermOf count 0) (Const n) (map Const ns) (All-head (IsNameOf count) n ns h) (terms-known count ns (All-tail (IsNameOf count) n ns h))

fact-known : (count : ℕ) (f : Fact) → IsFactOf count f → IsLiftedOf count 0 (lifted_fact f)
fact-known count f h = (h.head, terms-known count f.args h.args)

fact-short : (count : ℕ) (f : Fact) → IsFactOf count f → IsShort (lifted_fact f)
fact-short count f h = (let few = h.few in omega (arith, few, length-map f.args Const))

module _ (names : Table) where
  fact_taken : (f : Lifted) (t : Nested) → IsShort f → IsCondForm names [] (holds f) t → Takes t IsDone (InGoal goal.Atom ∷ [])
  fact_taken _ _ few (fact_form _ f t k) = atom_taken names f t few k [] IsDone (omega arith) refl

  fact_stays : (f : Lifted) (t : Nested) → IsLiftedOf (length names) 0 f → IsCondForm names [] (holds f) t → stray [] t ≡ None
  fact_stays _ _ all (fact_form _ f t k) = lifted_stays names (length names) [] f t all k

  fact_told : (f : Fact) (g : Lifted) (t : Nested) → g ≡ lifted_fact f → IsLiftedOf (length names) 0 g → IsShort g → IsCondForm names [] (holds g) t → fact_of (items t) ≡ f
  fact_told f _ _ e all few (fact_form _ g t k) =
      fact-means names (length names) f t (subst (IsLiftedOf (length names) 0) e all) (subst IsShort e few) (subst (λ (l : Lifted). IsLiftedForm names [] l t) e k)

  -- ---- values

  value_as : (f : Fact) (n : ℤ) → value_text names f n ≡ cond_text names [] (compares rel.Eq (value_of (lifted_fact f)) (number n))
  value_as f n = ap (λ text. codes "(= " ++ (text ++ (codes " " ++ (number_text n ++ codes ")")))) (fact-text names f)

  value_line_taken : (f : Lifted) (n : ℤ) (t : Nested) → IsShort f → IsCondForm names [] (compares rel.Eq (value_of f) (number n)) t
      → Takes t IsDone (The mark.Open ∷ The mark.Equal ∷ InGoal goal.Atom ∷ The mark.Number ∷ The mark.Close ∷ [])
  value_line_taken _ _ _ few (comparison_form _ _ _ _ l _ _ m (a_value f t k) (a_number n w number_mark e)) = (
    omega arith,
    one.at_mark (InGoal goal.Atom ∷ The mark.Number ∷ The mark.Close ∷ []) (TakesAll (more t (more (word w) none)) IsDone) (The mark.Equal) l.mark mark.Equal m
        (atom_taken names f t few k (The mark.Number ∷ The mark.Close ∷ []) (TakesAll (more (word w) none) IsDone) (omega arith)
        (one.at_mark (The mark.Close ∷ []) (TakesAll none IsDone) (The mark.Number) w.mark mark.Number number_mark refl)),
  )

  value_line_stays : (f : Lifted) (n : ℤ) (t : Nested) → IsLiftedOf (length names) 0 f → IsCount n → IsCondForm names [] (compares rel.Eq (value_of f) (number n)) t → stray [] t ≡ None
  value_line_stays _ _ _ all number_known (comparison_form _ _ _ _ l t u m j k) =
      rw (m, expr_stays names (length names) [] _ t all j, expr_stays names (length names) [] _ u number_known k) refl

  value_line_told : (f : Fact) (g : Lifted) (n : ℤ) (t : Nested) → g ≡ lifted_fact f → IsLiftedOf (length names) 0 g → IsShort g → IsCondForm names [] (compares rel.Eq (value_of g) (number n)) t → valued (items_at (more t none)) ≡ command.Edit (edit.SetValue f n)
  value_line_told f _ _ _ e all few (comparison_form _ _ _ _ l _ _ m (a_value g t k) (a_number n w number_mark is)) =
      let fact : fact_of (items t) ≡ f = fact_told f g t e all few (fact_form [] g t k) in
      rw (fact, is) refl

-- ---- lines

module _ (names table : Table) (named : AreNames names) (known : AreNames table) (keeps : Keeps names table) where
  abbrev count : ℕ
  count = length names

  -- a text with words of a form, whose lists are taken and mean a command, is read as that command
  line_read : (bytes : List ℕ) (ws : List (List ℕ)) (f : Form) (c : Command) (P : Nesteds → Type 0) → IsPlain bytes → words bytes ≡ ws → Classed ws → form_of ws ≡ Some f → AllSpelt names ws P → ((ts : Nesteds) → P ts → TakesLine ts (start_of f)) → ((ts : Nesteds) → P ts → strays [] ts ≡ None) → ((ts : Nesteds) → P ts → command_of f ts ≡ c) → IsReadAs table bytes c
  line_read bytes ws f c P plain are classed is s takes stays means =
      let tokens = texts_have_tokens bytes (subst (All (λ w. IsSome (class_of w))) (sym are) classed.all) in
      let read = lexemes_of bytes table tokens.0 in
      let lexed : AreLexemes names ws read.0 = lexemes_kept names table keeps ws read.0 (subst (λ us. AreLexemes table us read.0) are (are_lexemes table bytes known tokens.0 tokens.1)) in
      let spelt = s.spells read.0 lexed in
      let judged = judged_of_line (start_of f) spelt.0 read.0 spelt.1 (takes spelt.0 spelt.2) in
      let fits : IsOfForm bytes f tokens.0 = record { plain = plain; are_tokens = tokens.1; form_is = ap form_of are ∙ is } in
      good f tokens.0 read.0 (with_words table (words bytes)) spelt.0 c fits (subst (λ after. lexemes_of bytes table tokens.0 ≡ (read.0, after)) (after_text bytes table tokens.0 tokens.1) refl) (fitting spelt.0 judged.0 judged.1 spelt.1 (stays spelt.0 spelt.2)) (means spelt.0 spelt.2)

  -- ---- two fixed words and a condition's list

  cond_taken : (c : CondTree) (st : List Symbol) → ((t : Nested) → IsCondForm names [] c t → Takes t IsDone st) → (us : Nesteds) → IsOneCond names c us → TakesLine us st
  cond_taken c st takes none h = absurd h
  cond_taken c st takes (more t none) h = takes t h
  cond_taken c st takes (more t (more u us)) h = absurd h

  cond_means : (c : CondTree) (F : Nesteds → Command) (d : Command) → ((t : Nested) → IsCondForm names [] c t → F (more t none) ≡ d) → (us : Nesteds) → IsOneCond names c us → F us ≡ d
  cond_means c F d means none h = absurd h
  cond_means c F d means (more t none) h = means t h
  cond_means c F d means (more t (more u us)) h = absurd h

  cond_line : (prefix v w : List ℕ) (f : Form) (st : List Symbol) (F : Nesteds → Command) (c : CondTree) (d : Command) → IsPlain (prefix ++ cond_text names [] c) → Whole prefix (v ∷ w ∷ []) → IsFixed v → IsFixed w → form_of (v ∷ w ∷ cond_words names [] c) ≡ Some f
      → AnyName ∷ AnyName ∷ st ≡ start_of f → ((ts : Nesteds) → command_of f ts ≡ F (rest (rest ts))) → IsCondOf count [] c → BindsFree names [] c → ((t : Nested) → IsCondForm names [] c t → Takes t IsDone st) → ((t : Nested) → IsCondForm names [] c t → stray [] t ≡ None) → ((t : Nested) → IsCondForm names [] c t → F (more t none) ≡ d) → IsReadAs table (prefix ++ cond_text names [] c) d
  cond_line prefix v w f st F c d plain whole first second is start of all free takes stays means =
      line_read (prefix ++ cond_text names [] c) (v ∷ w ∷ cond_words names [] c) f d (Fixed 2 (IsOneCond names c)) plain
      (words-written (whole_writes whole (condition names named c all)))
      (classed_more v (fixed_class first) (classed_more w (fixed_class second) (classed_cond names named c all))) is
      (fixed_first 1 (IsOneCond names c) v first.of_class first.no_paren first.of_name (fixed_first 0 (IsOneCond names c) w second.of_class second.no_paren second.of_name (cond_spelt names named c all free)))
      (λ ts h. subst (TakesLine ts) start (fixed_taken 2 (IsOneCond names c) ts st h (cond_taken c st takes)))
      (λ ts h. fixed_stays 2 (IsOneCond names c) ts h (one_cond_stays names c stays))
      (λ ts h. of ts ∙ cond_means c F d means (rest (rest ts)) (fixed_rest 2 (IsOneCond names c) ts h))

  -- a fact after two fixed words
  fact_line : (prefix v w : List ℕ) (f : Form) (G : Fact → Command) (x : Fact) → IsPlain (prefix ++ cond_text names [] (holds (lifted_fact x))) → Whole prefix (v ∷ w ∷ []) → IsFixed v → IsFixed w → form_of (v ∷ w ∷ cond_words names [] (holds (lifted_fact x))) ≡ Some f
      → AnyName ∷ AnyName ∷ InGoal goal.Atom ∷ [] ≡ start_of f → ((ts : Nesteds) → command_of f ts ≡ G (fact_of (items_at (rest (rest ts))))) → IsFactOf count x → IsReadAs table (prefix ++ fact_text names x) (G x)
  fact_line prefix v w f G x plain whole first second is start of h =
      let all = fact-known count x h in
      let few = fact-short count x h in
      subst (λ text. IsReadAs table (prefix ++ text) (G x)) (sym (fact-text names x))
      (cond_line prefix v w f (InGoal goal.Atom ∷ []) (λ us. G (fact_of (items_at us))) (holds (lifted_fact x)) (G x) plain whole first second is start of all tt
      (λ t k. fact_taken names (lifted_fact x) t few k) (λ t k. fact_stays names (lifted_fact x) t all k) (λ t k. ap G (fact_told names x (lifted_fact x) t refl all few k)))

  value_line : (x : Fact) (n : ℤ) → IsFactOf count x → IsCount n → IsReadAs table (codes "set function " ++ value_text names x n) (command.Edit (edit.SetValue x n))
  value_line x n h number_known =
      let all = fact-known count x h in
      let few = fact-short count x h in
      subst (λ text. IsReadAs table (codes "set function " ++ text) (command.Edit (edit.SetValue x n))) (sym (value_as names x n))
      (cond_line (codes "set function ") (codes "set") (codes "function") form.SetFunction (The mark.Open ∷ The mark.Equal ∷ InGoal goal.Atom ∷ The mark.Number ∷ The mark.Close ∷ []) (λ us. valued (items_at us)) (compares rel.Eq (value_of (lifted_fact x)) (number n)) (command.Edit (edit.SetValue x n))
      (record { something = refl; no_source = refl; no_plan = refl }) (record { whole = λ rest. refl }) (record { of_class = refl; no_paren = refl; of_name = refl }) (record { of_class = refl; no_paren = refl; of_name = refl }) refl refl (λ ts. refl) (all, number_known) (tt, tt)
      (λ t k. value_line_taken names (lifted_fact x) n t few k) (λ t k. value_line_stays names (lifted_fact x) n t all number_known k) (λ t k. value_line_told names x (lifted_fact x) n t refl all few k))

  goal_line : (g : Cond) → IsGoalOf names g → IsReadAs table (codes "set goal " ++ cond_text names [] (cond_tree g)) (command.Edit (edit.SetGoal g))
  goal_line g h =
      let shallow = h.shallow in
      cond_line (codes "set goal ") (codes "set") (codes "goal") form.SetGoal (InGoal goal.Condition ∷ []) (λ us. command.Edit (edit.SetGoal (first_condition us))) (cond_tree g) (command.Edit (edit.SetGoal g))
      (record { something = refl; no_source = refl; no_plan = refl }) (record { whole = λ rest. refl }) (record { of_class = refl; no_paren = refl; of_name = refl }) (record { of_class = refl; no_paren = refl; of_name = refl }) refl refl (λ ts. refl) h.known (heads_free names [] (cond_tree g) h.heads)
      (λ t k. condition_taken names [] (cond_tree g) t h.heads k [] IsDone (omega (arith, shallow)) refl) (λ t k. cond_stays names count [] (cond_tree g) t h.known h.heads k) (λ t k. ap (λ c. command.Edit (edit.SetGoal c)) (goal-means names count g t h.known h.heads k))

  -- ---- fixed words and names

  two_line : (bytes v w : List ℕ) (f : Form) (c : Command) → IsPlain bytes → words bytes ≡ v ∷ w ∷ [] → IsFixed v → IsFixed w → form_of (v ∷ w ∷ []) ≡ Some f → AnyName ∷ AnyName ∷ [] ≡ start_of f → ((ts : Nesteds) → command_of f ts ≡ c) → IsReadAs table bytes c
  two_line bytes v w f c plain are first second is start means =
      line_read bytes (v ∷ w ∷ []) f c (Fixed 2 (AreNamed names [])) plain are
      (classed_more v (fixed_class first) (classed_more w (fixed_class second) classed_none)) is
      (fixed_first 1 (AreNamed names []) v first.of_class first.no_paren first.of_name (fixed_first 0 (AreNamed names []) w second.of_class second.no_paren second.of_name (no_names_spelt names named)))
      (λ ts h. subst (TakesLine ts) start (fixed_taken 2 (AreNamed names []) ts [] h (named_taken names [])))
      (λ ts h. fixed_stays 2 (AreNamed names []) ts h (named_stays names []))
      (λ ts h. means ts)

  three_line : (bytes u v w : List ℕ) (f : Form) (c : Command) → IsPlain bytes → words bytes ≡ u ∷ v ∷ w ∷ [] → IsFixed u → IsFixed v → IsFixed w → form_of (u ∷ v ∷ w ∷ []) ≡ Some f → AnyName ∷ AnyName ∷ AnyName ∷ [] ≡ start_of f → ((ts : Nesteds) → command_of f ts ≡ c) → IsReadAs table bytes c
  three_line bytes u v w f c plain are first second third is start means =
      line_read bytes (u ∷ v ∷ w ∷ []) f c (Fixed 3 (AreNamed names [])) plain are
      (classed_more u (fixed_class first) (classed_more v (fixed_class second) (classed_more w (fixed_class third) classed_none))) is
      (fixed_first 2 (AreNamed names []) u first.of_class first.no_paren first.of_name (fixed_first 1 (AreNamed names []) v second.of_class second.no_paren second.of_name (fixed_first 0 (AreNamed names []) w third.of_class third.no_paren third.of_name (no_names_spelt names named))))
      (λ ts h. subst (TakesLine ts) start (fixed_taken 3 (AreNamed names []) ts [] h (named_taken names [])))
      (λ ts h. fixed_stays 3 (AreNamed names []) ts h (named_stays names []))
      (λ ts h. means ts)

  -- a name after three fixed words
  fourth_line : (prefix u v w : List ℕ) (f : Form) (G : Name → Command) (n : Name) → IsPlain (prefix ++ name_text names n) → Whole prefix (u ∷ v ∷ w ∷ []) → IsFixed u → IsFixed v → IsFixed w → form_of (u ∷ v ∷ w ∷ name_text names n ∷ []) ≡ Some f
      → AnyName ∷ AnyName ∷ AnyName ∷ AnyName ∷ [] ≡ start_of f → ((ts : Nesteds) → command_of f ts ≡ G (head (rest (rest (rest ts)))).name) → IsNameOf count n → IsReadAs table (prefix ++ name_text names n) (G n)
  fourth_line prefix u v w f G n plain whole first second third is start of h =
      line_read (prefix ++ name_text names n) (u ∷ v ∷ w ∷ name_text names n ∷ []) f (G n) (Fixed 3 (AreNamed names (n ∷ []))) plain
      (words-written (whole_writes whole (name names named n h)))
      (classed_more u (fixed_class first) (classed_more v (fixed_class second) (classed_more w (fixed_class third) (classed_more (name_text names n) (classed_name names named n h) classed_none)))) is
      (fixed_first 2 (AreNamed names (n ∷ [])) u first.of_class first.no_paren first.of_name (fixed_first 1 (AreNamed names (n ∷ [])) v second.of_class second.no_paren second.of_name (fixed_first 0 (AreNamed names (n ∷ [])) w third.of_class third.no_paren third.of_name (one_name_spelt names named n h))))
      (λ ts k. subst (TakesLine ts) start (fixed_taken 3 (AreNamed names (n ∷ [])) ts (AnyName ∷ []) k (named_taken names (n ∷ []))))
      (λ ts k. fixed_stays 3 (AreNamed names (n ∷ [])) ts k (named_stays names (n ∷ [])))
      (λ ts k. of ts ∙ ap G (name_at names n [] (rest (rest (rest ts))) (fixed_rest 3 (AreNamed names (n ∷ [])) ts k)))

  remove_line : (n : Name) → IsNameOf count n → IsReadAs table (codes "remove instance " ++ name_text names n) (command.Edit (edit.RemoveInstance n))
  remove_line n h =
      line_read (codes "remove instance " ++ name_text names n) (codes "remove" ∷ codes "instance" ∷ name_text names n ∷ []) form.RemoveInstance (command.Edit (edit.RemoveInstance n)) (Fixed 2 (AreNamed names (n ∷ [])))
      (record { something = refl; no_source = refl; no_plan = refl })
      (words-written {text = codes "remove instance " ++ name_text names n} {ws = codes "remove" ∷ codes "instance" ∷ name_text names n ∷ []} (whole_writes {t = codes "remove instance "} {u = name_text names n} {ws = codes "remove" ∷ codes "instance" ∷ []} {us = name_text names n ∷ []} (record { whole = λ rest. refl }) (name names named n h)))
      (classed_more (codes "remove") refl (classed_more (codes "instance") refl (classed_more (name_text names n) (classed_name names named n h) classed_none))) refl
      (fixed_first 1 (AreNamed names (n ∷ [])) (codes "remove") refl refl refl (fixed_first 0 (AreNamed names (n ∷ [])) (codes "instance") refl refl refl (one_name_spelt names named n h)))
      (λ ts k. fixed_taken 2 (AreNamed names (n ∷ [])) ts (AnyName ∷ []) k (named_taken names (n ∷ [])))
      (λ ts k. fixed_stays 2 (AreNamed names (n ∷ [])) ts k (named_stays names (n ∷ [])))
      (λ ts k. ap (λ m. command.Edit (edit.RemoveInstance m)) (name_at names n [] (rest (rest ts)) (fixed_rest 2 (AreNamed names (n ∷ [])) ts k)))

  instance_line : (n kind : Name) → IsNameOf count n → IsNameOf count kind → IsReadAs table (codes "set instance " ++ (name_text names n ++ (codes " " ++ name_text names kind))) (command.Edit (edit.AddInstance n kind))
  instance_line n kind h g =
      let bytes = codes "set instance " ++ (name_text names n ++ (codes " " ++ name_text names kind)) in
      let ws = codes "set" ∷ codes "instance" ∷ name_text names n ∷ name_text names kind ∷ [] in
      line_read bytes ws form.SetInstance (command.Edit (edit.AddInstance n kind)) (Fixed 2 (AreNamed names (n ∷ kind ∷ [])))
      (record { something = refl; no_source = refl; no_plan = refl })
      (words-written {text = bytes} {ws = ws} (whole_writes {t = codes "set instance "} {u = name_text names n ++ (codes " " ++ name_text names kind)} {ws = codes "set" ∷ codes "instance" ∷ []} {us = name_text names n ∷ name_text names kind ∷ []} (record { whole = λ rest. refl }) (writes_later (name names named n h) (later_blank (name names named kind g)))))
      (classed_more (codes "set") refl (classed_more (codes "instance") refl (classed_more (name_text names n) (classed_name names named n h) (classed_more (name_text names kind) (classed_name names named kind g) classed_none)))) refl
      (fixed_first 1 (AreNamed names (n ∷ kind ∷ [])) (codes "set") refl refl refl (fixed_first 0 (AreNamed names (n ∷ kind ∷ [])) (codes "instance") refl refl refl (two_names_spelt names named n kind h g)))
      (λ ts k. fixed_taken 2 (AreNamed names (n ∷ kind ∷ [])) ts (AnyName ∷ AnyName ∷ []) k (named_taken names (n ∷ kind ∷ [])))
      (λ ts k. fixed_stays 2 (AreNamed names (n ∷ kind ∷ [])) ts k (named_stays names (n ∷ kind ∷ [])))
      (λ ts k.
      let both = fixed_rest 2 (AreNamed names (n ∷ kind ∷ [])) ts k in
      let first : (head (rest (rest ts))).name ≡ n = name_at names n (kind ∷ []) (rest (rest ts)) both in
      let second : (head (rest (rest (rest ts)))).name ≡ kind = name_at names kind [] (rest (rest (rest ts))) (names_after names n (kind ∷ []) (rest (rest ts)) both) in
      ap (λ m. command.Edit (edit.AddInstance m (head (rest (rest (rest ts)))).name)) first ∙ ap (λ m. command.Edit (edit.AddInstance n m)) second)

fixed : {w : List ℕ} → class_of w ≡ Some class.Name → is_plain (mark_of class.Name w) ≡ true → is_name (mark_of class.Name w) ≡ true → IsFixed w
fixed c p n = record { of_class = c; no_paren = p; of_name = n }

pub edits_are_read_back : EditsAreReadBack
edits_are_read_back names table (edit.AddInstance n kind) named known keeps h = instance_line names table named known keeps n kind h.0 h.1
edits_are_read_back names table (edit.RemoveInstance n) named known keeps h = remove_line names table named known keeps n h
edits_are_read_back names table (edit.AddFact f) named known keeps h =
    fact_line names table named known keeps (codes "set predicate ") (codes "set") (codes "predicate") form.SetPredicate (λ x. command.Edit (edit.AddFact x)) f (record { something = refl; no_source = refl; no_plan = refl }) (record { whole = λ rest. refl }) (fixed refl refl refl) (fixed refl refl refl) refl refl (λ ts. refl) h
edits_are_read_back names table (edit.RemoveFact f) named known keeps h =
    fact_line names table named known keeps (codes "remove predicate ") (codes "remove") (codes "predicate") form.RemovePredicate (λ x. command.Edit (edit.RemoveFact x)) f (record { something = refl; no_source = refl; no_plan = refl }) (record { whole = λ rest. refl }) (fixed refl refl refl) (fixed refl refl refl) refl refl (λ ts. refl) h
edits_are_read_back names table (edit.SetValue f n) named known keeps h = value_line names table named known keeps f n h.0 h.1
edits_are_read_back names table (edit.RemoveValue f) named known keeps h =
    fact_line names table named known keeps (codes "remove function ") (codes "remove") (codes "function") form.RemoveFunction (λ x. command.Edit (edit.RemoveValue x)) f (record { something = refl; no_source = refl; no_plan = refl }) (record { whole = λ rest. refl }) (fixed refl refl refl) (fixed refl refl refl) refl refl (λ ts. refl) h
edits_are_read_back names table (edit.SetGoal g) named known keeps h = goal_line names table named known keeps g h
edits_are_read_back names table edit.RemoveGoal named known keeps h =
    two_line names table named known keeps (codes "remove goal") (codes "remove") (codes "goal") form.RemoveGoal (command.Edit edit.RemoveGoal) (record { something = refl; no_source = refl; no_plan = refl }) refl (fixed refl refl refl) (fixed refl refl refl) refl refl (λ ts. refl)

pub acts_are_read_back : ActsAreReadBack
acts_are_read_back names table act named known keeps h =
    fact_line names table named known keeps (codes "run action ") (codes "run") (codes "action") form.RunAction (λ x. command.RunAction (record { action = x.head; args = x.args })) (record { head = act.action; args = act.args }) (record { something = refl; no_source = refl; no_plan = refl }) (record { whole = λ rest. refl }) (fixed refl refl refl) (fixed refl refl refl) refl refl (λ ts. refl) h

pub queries_are_read_back : QueriesAreReadBack
queries_are_read_back names table query.ModelTypes named known keeps h =
    three_line names table named known keeps (codes "get model types") (codes "get") (codes "model") (codes "types") form.ModelTypes (command.Ask query.ModelTypes) (record { something = refl; no_source = refl; no_plan = refl }) refl (fixed refl refl refl) (fixed refl refl refl) (fixed refl refl refl) refl refl (λ ts. refl)
queries_are_read_back names table query.ModelPredicates named known keeps h =
    three_line names table named known keeps (codes "get model predicates") (codes "get") (codes "model") (codes "predicates") form.ModelPredicates (command.Ask query.ModelPredicates) (record { something = refl; no_source = refl; no_plan = refl }) refl (fixed refl refl refl) (fixed refl refl refl) (fixed refl refl refl) refl refl (λ ts. refl)
queries_are_read_back names table query.ModelFunctions named known keeps h =
    three_line names table named known keeps (codes "get model functions") (codes "get") (codes "model") (codes "functions") form.ModelFunctions (command.Ask query.ModelFunctions) (record { something = refl; no_source = refl; no_plan = refl }) refl (fixed refl refl refl) (fixed refl refl refl) (fixed refl refl refl) refl refl (λ ts. refl)
queries_are_read_back names table query.ModelActions named known keeps h =
    three_line names table named known keeps (codes "get model actions") (codes "get") (codes "model") (codes "actions") form.ModelActions (command.Ask query.ModelActions) (record { something = refl; no_source = refl; no_plan = refl }) refl (fixed refl refl refl) (fixed refl refl refl) (fixed refl refl refl) refl refl (λ ts. refl)
queries_are_read_back names table query.ProblemInstances named known keeps h =
    three_line names table named known keeps (codes "get problem instances") (codes "get") (codes "problem") (codes "instances") form.ProblemInstances (command.Ask query.ProblemInstances) (record { something = refl; no_source = refl; no_plan = refl }) refl (fixed refl refl refl) (fixed refl refl refl) (fixed refl refl refl) refl refl (λ ts. refl)
queries_are_read_back names table query.ProblemPredicates named known keeps h =
    three_line names table named known keeps (codes "get problem predicates") (codes "get") (codes "problem") (codes "predicates") form.ProblemPredicates (command.Ask query.ProblemPredicates) (record { something = refl; no_source = refl; no_plan = refl }) refl (fixed refl refl refl) (fixed refl refl refl) (fixed refl refl refl) refl refl (λ ts. refl)
queries_are_read_back names table query.ProblemFunctions named known keeps h =
    three_line names table named known keeps (codes "get problem functions") (codes "get") (codes "problem") (codes "functions") form.ProblemFunctions (command.Ask query.ProblemFunctions) (record { something = refl; no_source = refl; no_plan = refl }) refl (fixed refl refl refl) (fixed refl refl refl) (fixed refl refl refl) refl refl (λ ts. refl)
queries_are_read_back names table query.ProblemGoal named known keeps h =
    three_line names table named known keeps (codes "get problem goal") (codes "get") (codes "problem") (codes "goal") form.ProblemGoal (command.Ask query.ProblemGoal) (record { something = refl; no_source = refl; no_plan = refl }) refl (fixed refl refl refl) (fixed refl refl refl) (fixed refl refl refl) refl refl (λ ts. refl)
queries_are_read_back names table (query.ModelPredicate n) named known keeps h =
    fourth_line names table named known keeps (codes "get model predicate ") (codes "get") (codes "model") (codes "predicate") form.ModelPredicate (λ m. command.Ask (query.ModelPredicate m)) n (record { something = refl; no_source = refl; no_plan = refl }) (record { whole = λ rest. refl }) (fixed refl refl refl) (fixed refl refl refl) (fixed refl refl refl) refl refl (λ ts. refl) h
queries_are_read_back names table (query.ModelAction n) named known keeps h =
    fourth_line names table named known keeps (codes "get model action ") (codes "get") (codes "model") (codes "action") form.ModelAction (λ m. command.Ask (query.ModelAction m)) n (record { something = refl; no_source = refl; no_plan = refl }) (record { whole = λ rest. refl }) (fixed refl refl refl) (fixed refl refl refl) (fixed refl refl refl) refl refl (λ ts. refl) h
queries_are_read_back names table query.Domain named known keeps h =
    two_line names table named known keeps (codes "get domain") (codes "get") (codes "domain") form.Domain (command.Ask query.Domain) (record { something = refl; no_source = refl; no_plan = refl }) refl (fixed refl refl refl) (fixed refl refl refl) refl refl (λ ts. refl)
queries_are_read_back names table query.Plan named known keeps h =
    two_line names table named known keeps (codes "get plan") (codes "get") (codes "plan") form.Plan (command.Ask query.Plan) (record { something = refl; no_source = refl; no_plan = refl }) refl (fixed refl refl refl) (fixed refl refl refl) refl refl (λ ts. refl)
queries_are_read_back names table query.Tree named known keeps h =
    two_line names table named known keeps (codes "get tree") (codes "get") (codes "tree") form.Tree (command.Ask query.Tree) (record { something = refl; no_source = refl; no_plan = refl }) refl (fixed refl refl refl) (fixed refl refl refl) refl refl (λ ts. refl)
