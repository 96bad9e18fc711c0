-- What a line in plain names says is what its nested lists mean.
use Rattle.std.proofs.Common.{append_assoc, ℤ, ◌≡◌, ◌-◌, ◌<◌, ◌≤◌, nat_lt, ℕ, Bool, true, false, ◌&&◌, ◌||◌, List, [], ◌∷◌, ◌++◌, length, length-append, map, min, slice_index_or, take, None, refl, sym, ◌∙◌, ap, subst, inl, inr, arith, append-nil}
use Rattle.std.specs.List.{list_all}
use Rattle.std.proofs.lemmas.Bool.{and_parts, cases_Bool}
use Rattle.std.proofs.lemmas.List.{map-append, take-append-le, take-map, take_min}
use Rattle.ps_world.specs.declared.edits.Edit.TheVariants as edit
use Rattle.ps_world.specs.declared.facts.Fact.{Fact}
use Rattle.ps_machine.specs.declared.inputs.Command.{Command}
use Rattle.ps_machine.specs.declared.inputs.Command.TheVariants.{Edit}
use Rattle.ps_grammar.specs.Marks.{is}
use Rattle.ps_grammar.specs.Symbols.{level}
use Rattle.ps_grammar.specs.Rules.{most_names}
use Rattle.ps_grammar.specs.Shape.Derives.{nothing as derives_nothing}
use Rattle.ps_grammar.specs.declared.marks.Mark.{Mark}
use Rattle.ps_grammar.specs.declared.marks.Mark.TheVariants.{Open, Close, At, Equal, Name, Number, Variable}
use Rattle.ps_grammar.specs.declared.symbols.Symbol.{Symbol}
use Rattle.ps_grammar.specs.declared.symbols.Symbol.TheVariants.{AnyName, InGoal}
use Rattle.ps_grammar.specs.declared.symbols.GoalPart.TheVariants as goal
use Rattle.ps_grammar.proofs.SameMarks.{mark_is}
use Rattle.ps_lists.specs.Lexemes.{marks}
use Rattle.ps_lists.specs.Nested.{Nesteds, word, group, none, more}
use Rattle.ps_lists.specs.Spelling.{Spells, SpellAll}
use Rattle.ps_lists.specs.Spelling.Spells.{plain, between}
use Rattle.ps_lists.specs.Spelling.SpellAll.{nothing, one_more}
use Rattle.ps_lists.specs.declared.lexemes.Lexeme.{Lexeme}
use Rattle.ps_script.specs.Commands.{command_of, stated}
use Rattle.ps_script.specs.FactLines.{EndsValue, Means, SaysFact, are_names, are_plain, args_said, begins_value, fact_said, is_fact, is_last}
use Rattle.ps_script.specs.Forms.{start_of}
use Rattle.ps_script.specs.Goals.{fact_of, names_of}
use Rattle.ps_script.specs.Judged.{Fits}
use Rattle.ps_script.specs.Scopes.{quantifies, strays}
use Rattle.ps_script.specs.declared.forms.Form.{Form}
use Rattle.ps_script.specs.declared.forms.Form.TheVariants as form
use Rattle.ps_script.proofs.FactsFit.{fact_lines_fit, shallow_end, value_lines_fit, word_fits}

-- ---- words as a list without lists in it

abbrev is_said : Mark → Bool
is_said Name = true
is_said At = true
is_said Equal = true
is_said Number = true
is_said _ = false

abbrev all_said : List Lexeme → Bool
all_said ls = list_all (λ l. is_said l.mark) ls

abbrev listed : List Lexeme → Nesteds
listed [] = none
listed (l ∷ ls) = more (word l) (listed ls)

no_parenthesis : (m paren : Mark) → is_said m ≡ true → is_said paren ≡ false → m ≡ paren → ⊥
no_parenthesis m paren said other e = (let no : false ≡ true = sym other ∙ sym (ap is_said e) ∙ said in absurd (cc))

no_variable : (m : Mark) → is_said m ≡ true → is Variable m ≡ false
no_variable Name e = refl
no_variable At e = refl
no_variable Equal e = refl
no_variable Number e = refl
no_variable _ e = absurd (cc)

no_quantifier : (m : Mark) → is_said m ≡ true → quantifies m ≡ false
no_quantifier Name e = refl
no_quantifier At e = refl
no_quantifier Equal e = refl
no_quantifier Number e = refl
no_quantifier _ e = absurd (cc)

word_spelt : (l : Lexeme) → is_said l.mark ≡ true → Spells (word l) (l ∷ [])
word_spelt l e = plain l (no_parenthesis l.mark Open e refl) (no_parenthesis l.mark Close e refl)

listed_spelt : (ls : List Lexeme) → all_said ls ≡ true → SpellAll (listed ls) ls
listed_spelt [] e = nothing
listed_spelt (l ∷ ls) e =
    let parts = and_parts (is_said l.mark) (all_said ls) e in
    one_more (word l) (listed ls) (l ∷ []) ls (word_spelt l parts.0) (listed_spelt ls parts.1)

listed_scope : (ls : List Lexeme) → all_said ls ≡ true → strays [] (listed ls) ≡ None
listed_scope [] e = refl
listed_scope (l ∷ ls) e =
    let parts = and_parts (is_said l.mark) (all_said ls) e in
    rw (no_variable l.mark parts.0) (listed_scope ls parts.1)

listed_names : (ls : List Lexeme) → names_of (listed ls) ≡ map (λ l. l.name) ls
listed_names [] = refl
listed_names (l ∷ ls) = ap (λ ns. l.name ∷ ns) (listed_names ls)

-- ---- facts

-- words that end with the parenthesis that closes their list
record Ends (ls : List Lexeme) : Type 0 where
  front : List Lexeme
  last : Lexeme
  whole : ls ≡ front ++ last ∷ []
  closes : last.mark ≡ Close
  said : all_said front ≡ true

end_alone : (l : Lexeme) (ls : List Lexeme) → l.mark ≡ Close → is_last (marks ls) ≡ true → Ends (l ∷ ls)
end_alone l [] closes last = record { front = []; last = l; whole = refl; closes = closes; said = refl }
end_alone l (m ∷ ms) closes last = absurd (cc)

ends : (most : ℕ) (ls : List Lexeme) → are_names most (marks ls) ≡ true → Ends ls
ends most [] e = absurd (cc)
ends most (l ∷ ls) e =
    elim (cases_Bool (is Close l.mark)) [
      | inl shut ↦ end_alone l ls (mark_is Close l.mark shut) (rw shut at e)
      | inr goes_on ↦
          let more : (nat_lt 0 most && is Name l.mark && are_names (most - 1) (marks ls)) ≡ true = rw goes_on at e in
          let parts = and_parts (nat_lt 0 most && is Name l.mark) (are_names (most - 1) (marks ls)) more in
          let name = and_parts (nat_lt 0 most) (is Name l.mark) parts.0 in
          let here : is_said l.mark ≡ true = ap is_said (mark_is Name l.mark name.1) in
          let rest : Ends ls = ends (most - 1) ls parts.1 in
          record { front = l ∷ rest.front; last = rest.last; whole = ap (λ x. l ∷ x) rest.whole; closes = rest.closes; said = rw here rest.said }
    ]

-- a fact's name and arguments between its parentheses
record Parts (ls : List Lexeme) : Type 0 where
  left : Lexeme
  head : Lexeme
  front : List Lexeme
  last : Lexeme
  whole : ls ≡ left ∷ head ∷ (front ++ last ∷ [])
  opens : left.mark ≡ Open
  closes : last.mark ≡ Close
  names : is_said head.mark ≡ true
  said : all_said front ≡ true

head_said : (m : Mark) → (is Name m || is At m) ≡ true → is_said m ≡ true
head_said Name e = refl
head_said At e = refl
head_said _ e = absurd (cc)

parts_of : (ls : List Lexeme) → is_fact (marks ls) ≡ true → Parts ls
parts_of [] e = absurd (cc)
parts_of (l ∷ []) e = absurd (cc)
parts_of (l ∷ h ∷ ls) e =
    let parts = and_parts (is Open l.mark && (is Name h.mark || is At h.mark)) (are_names most_names (marks ls)) e in
    let before = and_parts (is Open l.mark) (is Name h.mark || is At h.mark) parts.0 in
    let rest : Ends ls = ends most_names ls parts.1 in
    record {
      left = l;
      head = h;
      front = rest.front;
      last = rest.last;
      whole = ap (λ x. l ∷ h ∷ x) rest.whole;
      opens = mark_is Open l.mark before.0;
      closes = rest.closes;
      names = head_said h.mark before.1;
      said = rest.said;
    }

args_front : (front : List Lexeme) (last : Lexeme) → args_said (front ++ last ∷ []) ≡ take 6 (map (λ l. l.name) front)
args_front front last =
    let count : min (length (front ++ last ∷ []) - 1) 6 ≡ min 6 (length front) = omega (arith, length-append front (last ∷ [])) in
    ap (λ n. map (λ l. l.name) (take n (front ++ last ∷ []))) count
    ∙ ap (map (λ l. l.name)) (take-append-le (min 6 (length front)) front (last ∷ []) (omega arith) ∙ take_min 6 front)
    ∙ sym (take-map (λ l. l.name) 6 front)

module _ (ls : List Lexeme) (p : Parts ls) where
  -- what stands between the parentheses
  abbrev inside : Nesteds
  inside = more (word p.head) (listed p.front)

  fact_spelt : Spells (group inside) ls
  fact_spelt =
      let within : SpellAll inside (p.head ∷ p.front) = one_more (word p.head) (listed p.front) (p.head ∷ []) p.front (word_spelt p.head p.names) (listed_spelt p.front p.said) in
      let whole : Spells (group inside) (p.left ∷ p.head ∷ (p.front ++ p.last ∷ [])) = between p.left p.last inside (p.head ∷ p.front) p.opens p.closes within in
      subst (Spells (group inside)) (sym p.whole) whole

  fact_meant : fact_of inside ≡ fact_said ls
  fact_meant =
      ap (λ ns. record { head = p.head.name; args = take 6 ns }) (listed_names p.front)
      ∙ ap (λ ns. record { head = p.head.name; args = ns }) (sym (args_front p.front p.last))
      ∙ ap fact_said (sym p.whole)

-- a list after two words
abbrev lists : Lexeme → Lexeme → Nesteds → Nesteds
lists a b ts = more (word a) (more (word b) (more (group ts) none))

lists_spelt : (a b : Lexeme) (ts : Nesteds) (ls : List Lexeme) → is_said a.mark ≡ true → is_said b.mark ≡ true → Spells (group ts) ls → SpellAll (lists a b ts) (a ∷ b ∷ ls)
lists_spelt a b ts ls first second one =
    let grouped : SpellAll (more (group ts) none) ls = subst (SpellAll (more (group ts) none)) (append-nil ls) (one_more (group ts) none ls [] one nothing) in
    one_more (word a) (more (word b) (more (group ts) none)) (a ∷ []) (b ∷ ls) (word_spelt a first)
    (one_more (word b) (more (group ts) none) (b ∷ []) ls (word_spelt b second) grouped)

-- a command that is what a form makes of a fact
pub fact_means : (f : Form) (ls : List Lexeme) (fact : Fact) (command : Command) → start_of f ≡ AnyName ∷ AnyName ∷ InGoal goal.Atom ∷ [] → SaysFact ls fact → ((ts : Nesteds) → stated ts ≡ fact → command_of f ts ≡ command) → Means f ls command
fact_means f [] fact command start says makes = (let no = says.0 in absurd (cc))
fact_means f (a ∷ []) fact command start says makes = (let no = says.0 in absurd (cc))
fact_means f (a ∷ b ∷ ls) fact command start says makes =
    let parts = and_parts (is Name a.mark && is Name b.mark) (is_fact (marks ls)) says.0 in
    let names = and_parts (is Name a.mark) (is Name b.mark) parts.0 in
    let p : Parts ls = parts_of ls parts.1 in
    let first : is_said a.mark ≡ true = ap is_said (mark_is Name a.mark names.0) in
    let second : is_said b.mark ≡ true = ap is_said (mark_is Name b.mark names.1) in
    let rest : strays [] (listed p.front) ≡ None = listed_scope p.front p.said in (
      lists a b (inside ls p),
      subst (λ (st : List Symbol). Fits st (marks (a ∷ b ∷ ls)) None) (sym start) (fact_lines_fit (marks (a ∷ b ∷ ls)) says.0),
      lists_spelt a b (inside ls p) ls first second (fact_spelt ls p),
      rw (no_variable a.mark first, no_variable b.mark second, no_quantifier p.head.mark p.names, no_variable p.head.mark p.names, rest) refl,
      makes (lists a b (inside ls p)) (fact_meant ls p ∙ sym says.1),
    )

-- ---- values

module _ (a b left equal number right : Lexeme) (ls : List Lexeme) (p : Parts ls) (first : a.mark ≡ Name) (second : b.mark ≡ Name) (opens : left.mark ≡ Open) (equals : equal.mark ≡ Equal) (counts : number.mark ≡ Number) (closes : right.mark ≡ Close) where
  abbrev given : Nesteds
  given = more (word equal) (more (group (inside ls p)) (more (word number) none))

  given_spelt : Spells (group given) (left ∷ equal ∷ (ls ++ number ∷ right ∷ []))
  given_spelt =
      let pair : SpellAll (more (group (inside ls p)) (more (word number) none)) (ls ++ number ∷ []) = one_more (group (inside ls p)) (more (word number) none) ls (number ∷ []) (fact_spelt ls p) (one_more (word number) none (number ∷ []) [] (word_spelt number (ap is_said counts)) nothing) in
      let all : SpellAll given (equal ∷ (ls ++ number ∷ [])) = one_more (word equal) (more (group (inside ls p)) (more (word number) none)) (equal ∷ []) (ls ++ number ∷ []) (word_spelt equal (ap is_said equals)) pair in
      let one : Spells (group given) (left ∷ equal ∷ ((ls ++ number ∷ []) ++ right ∷ [])) = between left right given (equal ∷ (ls ++ number ∷ [])) opens closes all in
      subst (λ (x : List Lexeme). Spells (group given) (left ∷ equal ∷ x)) (append_assoc ls (number ∷ []) (right ∷ [])) one

  given_scope : strays [] (lists a b given) ≡ None
  given_scope =
      let rest : strays [] (listed p.front) ≡ None = listed_scope p.front p.said in
      rw (no_variable a.mark (ap is_said first), no_variable b.mark (ap is_said second), no_quantifier equal.mark (ap is_said equals), no_variable equal.mark (ap is_said equals), no_quantifier p.head.mark p.names, no_variable p.head.mark p.names, rest, no_variable number.mark (ap is_said counts)) refl

  given_fits : is_fact (marks ls) ≡ true → Fits (start_of form.SetFunction) (marks (a ∷ b ∷ left ∷ equal ∷ (ls ++ number ∷ right ∷ []))) None
  given_fits e =
      let same : marks (a ∷ b ∷ left ∷ equal ∷ (ls ++ number ∷ right ∷ [])) ≡ Name ∷ Name ∷ Open ∷ Equal ∷ (marks ls ++ Number ∷ Close ∷ []) = rw (map-append (λ l. l.mark) ls (number ∷ right ∷ []), first, second, opens, equals, counts, closes) refl in
      subst (λ (x : List Mark). Fits (start_of form.SetFunction) x None) (sym same) (value_lines_fit (marks ls) e)

  given_means : is_fact (marks ls) ≡ true → Means form.SetFunction (a ∷ b ∷ left ∷ equal ∷ (ls ++ number ∷ right ∷ [])) (Edit (edit.SetValue (fact_said ls) number.number))
  given_means e = (
    lists a b given,
    given_fits e,
    lists_spelt a b given (left ∷ equal ∷ (ls ++ number ∷ right ∷ [])) (ap is_said first) (ap is_said second) given_spelt,
    given_scope,
    ap (λ x. Edit (edit.SetValue x number.number)) (fact_meant ls p),
  )

started : (start ls end : List Lexeme) (n : ℤ) → begins_value (marks start) ≡ true → is_fact (marks ls) ≡ true → EndsValue end n → Means form.SetFunction (start ++ (ls ++ end)) (Edit (edit.SetValue (fact_said ls) n))
started (a ∷ b ∷ left ∷ equal ∷ []) ls (number ∷ right ∷ []) n begins e ends =
    let parts = and_parts (is Name a.mark && is Name b.mark) (is Open left.mark && is Equal equal.mark) begins in
    let names = and_parts (is Name a.mark) (is Name b.mark) parts.0 in
    let list = and_parts (is Open left.mark) (is Equal equal.mark) parts.1 in
    rw ends.2 (given_means a b left equal number right ls (parts_of ls e) (mark_is Name a.mark names.0) (mark_is Name b.mark names.1) (mark_is Open left.mark list.0) (mark_is Equal equal.mark list.1) ends.0 ends.1 e)
started (a ∷ b ∷ left ∷ equal ∷ []) ls [] n begins e ends = absurd ends
started (a ∷ b ∷ left ∷ equal ∷ []) ls (x ∷ []) n begins e ends = absurd ends
started (a ∷ b ∷ left ∷ equal ∷ []) ls (x ∷ y ∷ z ∷ zs) n begins e ends = absurd ends
started [] ls end n begins e ends = absurd (cc)
started (a ∷ []) ls end n begins e ends = absurd (cc)
started (a ∷ b ∷ []) ls end n begins e ends = absurd (cc)
started (a ∷ b ∷ left ∷ []) ls end n begins e ends = absurd (cc)
started (a ∷ b ∷ left ∷ equal ∷ x ∷ xs) ls end n begins e ends = absurd (cc)

-- a number after a fact
pub value_means : (whole start ls end : List Lexeme) (n : ℤ) → whole ≡ start ++ (ls ++ end) → begins_value (marks start) ≡ true → is_fact (marks ls) ≡ true → EndsValue end n → Means form.SetFunction whole (Edit (edit.SetValue (fact_said ls) n))
value_means whole start ls end n is begins e ends = rw is (started start ls end n begins e ends)

-- ---- plain names alone

plain_said : (ls : List Lexeme) → are_plain ls ≡ true → all_said ls ≡ true
plain_said [] e = refl
plain_said (l ∷ ls) e =
    let parts = and_parts (is Name l.mark) (are_plain ls) e in
    let here : is_said l.mark ≡ true = ap is_said (mark_is Name l.mark parts.0) in
    rw here (plain_said ls parts.1)

names_level : (ls : List Lexeme) → level (map (λ l. AnyName) ls) ≡ 0
names_level [] = refl
names_level (l ∷ ls) = omega (arith, names_level ls)

plain_fits : (ls : List Lexeme) → are_plain ls ≡ true → Fits (map (λ l. AnyName) ls) (marks ls) None
plain_fits [] e = (derives_nothing, shallow_end [])
plain_fits (l ∷ ls) e =
    let parts = and_parts (is Name l.mark) (are_plain ls) e in
    word_fits (map (λ l. AnyName) ls) l.mark (marks ls) (omega (arith, names_level (l ∷ ls))) parts.0 (plain_fits ls parts.1)

-- a command that is what a form makes of names
plain_means : (f : Form) (ls : List Lexeme) (command : Command) → map (λ l. AnyName) ls ≡ start_of f → are_plain ls ≡ true → command_of f (listed ls) ≡ command → Means f ls command
plain_means f ls command start e makes =
    let said = plain_said ls e in
    (listed ls, subst (λ (st : List Symbol). Fits st (marks ls) None) start (plain_fits ls e), listed_spelt ls said, listed_scope ls said, makes)

-- a name and its type
pub set_means : (ls : List Lexeme) (name kind : Lexeme) → 4 ≤ length ls → length ls < 5 → name ≡ slice_index_or ls 2 name → kind ≡ slice_index_or ls 3 kind → are_plain ls ≡ true → Means form.SetInstance ls (Edit (edit.AddInstance name.name kind.name))
set_means (a ∷ b ∷ x ∷ y ∷ []) name kind low high third fourth e = rw (third, fourth) (plain_means form.SetInstance (a ∷ b ∷ x ∷ y ∷ []) _ refl e refl)
set_means [] name kind low high third fourth e = absurd (omega (arith, low))
set_means (a ∷ []) name kind low high third fourth e = absurd (omega (arith, low))
set_means (a ∷ b ∷ []) name kind low high third fourth e = absurd (omega (arith, low))
set_means (a ∷ b ∷ x ∷ []) name kind low high third fourth e = absurd (omega (arith, low))
set_means (a ∷ b ∷ x ∷ y ∷ z ∷ ls) name kind low high third fourth e = absurd (omega (arith, high))

-- a name
pub removed_means : (ls : List Lexeme) (name : Lexeme) → 3 ≤ length ls → length ls < 4 → name ≡ slice_index_or ls 2 name → are_plain ls ≡ true → Means form.RemoveInstance ls (Edit (edit.RemoveInstance name.name))
removed_means (a ∷ b ∷ x ∷ []) name low high third e = rw third (plain_means form.RemoveInstance (a ∷ b ∷ x ∷ []) _ refl e refl)
removed_means [] name low high third e = absurd (omega (arith, low))
removed_means (a ∷ []) name low high third e = absurd (omega (arith, low))
removed_means (a ∷ b ∷ []) name low high third e = absurd (omega (arith, low))
removed_means (a ∷ b ∷ x ∷ y ∷ ls) name low high third e = absurd (omega (arith, high))
