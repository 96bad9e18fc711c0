-- A command line is the word `quit` alone exactly where it is read as the command that ends a script.
use Rattle.std.proofs.Common.{◌≡◌, ℕ, zero, suc, ◌==◌, Bool, true, false, inl, inr, not, ◌&&◌, if◌then◌else◌, Option, None, Some, Ok, Err, List, [], ◌∷◌, ◌++◌, codes, drop, take, length, map, slice_range, refl, sym, ap, ◌∙◌, subst, arith}
use Rattle.std.proofs.lemmas.Bool.{and_parts, and_right, cases_Bool, eqb-true, not_from_false, not_from_true, or_parts}
use Rattle.std.proofs.lemmas.Bool.Decides.{nat_tests}
use Rattle.std.proofs.lemmas.List.{length-map}
use Rattle.std.specs.Option.{ok_or, option_or}
use Rattle.ps_world.specs.Lines.{lengthened}
use Rattle.ps_world.specs.Names.{Table}
use Rattle.ps_world.proofs.SameTexts.{same_text-is}
use Rattle.ps_machine.specs.declared.inputs.Command.TheVariants as command
use Rattle.ps_machine.specs.declared.inputs.Line.{Line}
use Rattle.ps_machine.specs.declared.inputs.Line.TheVariants.{Good}
use Rattle.ps_text.specs.Names.{folded, lower, name_fault}
use Rattle.ps_text.specs.Tokens.{AreTokens, IsFirstFault, class_at, class_of, fault_of_word, span_of}
use Rattle.ps_text.specs.Words.{goes_on, is_blank, is_run_byte, pieces, reads_as, word_at, words}
use Rattle.ps_text.specs.declared.lexing.Class.TheVariants as class
use Rattle.ps_text.specs.declared.lexing.LexRefusal.{LexRefusal}
use Rattle.ps_text.specs.declared.lexing.Token.{Token}
use Rattle.ps_text.proofs.Folds.{name_fault-folded}
use Rattle.ps_text.proofs.Pieces.{first-no, first-yes}
use Rattle.ps_text.proofs.WordSteps.{words-alone, words-blank, words-longer}
use Rattle.ps_grammar.specs.Shape.{Derives, IsShallowFrom, IsTooDeepFrom}
use Rattle.ps_grammar.specs.Shape.Derives.{by_rule, nothing as no_mark}
use Rattle.ps_grammar.specs.Marks.{is_name}
use Rattle.ps_grammar.specs.Rules.{step, where_it_is}
use Rattle.ps_grammar.specs.declared.marks.Mark.{Mark}
use Rattle.ps_grammar.specs.declared.marks.Mark.TheVariants as mark
use Rattle.ps_grammar.specs.declared.symbols.Symbol.{Symbol}
use Rattle.ps_grammar.specs.declared.symbols.Symbol.TheVariants.{AnyName}
use Rattle.ps_lists.specs.Lexemes.{lexeme_of, lexemes_of, mark_of, marks, table_after}
use Rattle.ps_lists.specs.Nested.{Nesteds, word, none, more}
use Rattle.ps_lists.specs.Spelling.Spells.{plain as bare}
use Rattle.ps_lists.specs.Spelling.SpellAll.{nothing as no_list, one_more}
use Rattle.ps_lists.specs.declared.lexemes.Lexeme.{Lexeme}
use Rattle.ps_pddl.proofs.WordClasses.{class_of-name}
use Rattle.ps_script.specs.Commands.{command_of}
use Rattle.ps_script.specs.Files.{first_run, is_run_plan, is_source, run_length, trimmed}
use Rattle.ps_script.specs.Forms.{begins, form_in, form_of, one_word, start_of, three_words, two_words}
use Rattle.ps_script.specs.Judged.{IsJudged}
use Rattle.ps_script.specs.Judged.IsJudged.{fitting}
use Rattle.ps_script.specs.Lines.{IsRead, begins_nothing, is_nothing}
use Rattle.ps_script.specs.Lines.IsRead.{nothing, source, source_nothing, run_plan, run_nothing, without_class, without_number, without_form, without_shape, good}
use Rattle.ps_script.specs.declared.forms.Form.{Form}
use Rattle.ps_script.specs.declared.forms.Form.TheVariants.{Quit}
use Rattle.ps_script.specs.declared.reading.Read.{Read}
use Rattle.ps_script.specs.declared.reading.Read.TheVariants as reads
use Rattle.ps_script.proofs.Judgements.{fitting_parts, judged_one}
use Rattle.ps_inputs.specs.Flats.{is_quit}
use Rattle.ps_inputs.specs.Scripts.{ends_script}

-- ---- a line that names a file has another first letter

-- a word with another first letter
other_word : (b : ℕ) (bs : List ℕ) → (lower b == 113) ≡ false → reads_as (b ∷ bs) (codes "quit") ≡ false
other_word b bs h = rw h refl

other_first : (b : ℕ) (ws : List (List ℕ)) → (lower b == 113) ≡ false → reads_as (word_at (lengthened b ws) 0) (codes "quit") ≡ false
other_first b [] h = other_word b [] h
other_first b (w ∷ ws) h = other_word b w h

-- the first word of a text that begins with no blank and no comment has the text's first letter
first_letter : (b : ℕ) (bs : List ℕ) → is_blank b ≡ false → (b == 59) ≡ false → (lower b == 113) ≡ false → reads_as (word_at (words (b ∷ bs)) 0) (codes "quit") ≡ false
first_letter b bs black plain h =
    elim (cases_Bool (is_run_byte b && goes_on bs)) [
      | inl longer ↦ ap (λ ws. reads_as (word_at ws 0) (codes "quit")) (words-longer b bs black plain longer) ∙ other_first b (words bs) h
      | inr alone ↦ ap (λ ws. reads_as (word_at ws 0) (codes "quit")) (words-alone b bs black plain alone) ∙ other_word b [] h
    ]

not_first : (bytes : List ℕ) (b : ℕ) (bs : List ℕ) → trimmed bytes ≡ b ∷ bs → (b == 59) ≡ false → (lower b == 113) ≡ false → reads_as (word_at (words bytes) 0) (codes "quit") ≡ false
not_first [] b bs e plain h = absurd (cc)
not_first (c ∷ cs) b bs e plain h =
    elim (cases_Bool (is_blank c)) [
      | inl blank ↦
          let there : trimmed (c ∷ cs) ≡ trimmed cs = ap (λ n. drop n (c ∷ cs)) (first-no (λ b. not (is_blank b)) c cs (not_from_true (is_blank c) blank)) in
          ap (λ ws. reads_as (word_at ws 0) (codes "quit")) (words-blank c cs blank) ∙ not_first cs b bs (sym there ∙ e) plain h
      | inr black ↦
          let there : c ∷ cs ≡ b ∷ bs = sym (ap (λ n. drop n (c ∷ cs)) (first-yes (λ b. not (is_blank b)) c cs (not_from_false (is_blank c) black))) ∙ e in
          let same : c ≡ b = cc in
          first_letter c cs black (ap (λ x. x == 59) same ∙ plain) (ap (λ x. lower x == 113) same ∙ h)
    ]

-- a run that reads as a word with another first letter
other_run : (n b : ℕ) (bs : List ℕ) (f : ℕ) (fs : List ℕ) → (f == 113) ≡ false → reads_as (take n (b ∷ bs)) (f ∷ fs) ≡ true → (lower b == 113) ≡ false
other_run zero b bs f fs other h = absurd (cc)
other_run (suc n) b bs f fs other h = ap (λ x. x == 113) (eqb-true (lower b) f (and_parts (lower b == f) _ h).0) ∙ other

other_line : (bytes : List ℕ) (n f : ℕ) (fs : List ℕ) → is_nothing bytes ≡ false → (f == 113) ≡ false → reads_as (take n (trimmed bytes)) (f ∷ fs) ≡ true → is_quit bytes ≡ false
other_line bytes n f fs some other h = by_text (trimmed bytes) refl some h where
  by_text : (text : List ℕ) → trimmed bytes ≡ text → begins_nothing text ≡ false → reads_as (take n text) (f ∷ fs) ≡ true → is_quit bytes ≡ false
  by_text [] e something run = absurd (cc)
  by_text (b ∷ bs) e something run =
      and_right (length (words bytes) == 1) _ (not_first bytes b bs e (or_parts (b == 35) (b == 59) something).1 (other_run n b bs f fs other run))

source_line : (bytes : List ℕ) → is_nothing bytes ≡ false → is_source bytes ≡ true → is_quit bytes ≡ false
source_line bytes some is = other_line bytes (run_length (trimmed bytes)) 115 (codes "ource") some refl is

plan_line : (bytes : List ℕ) → is_nothing bytes ≡ false → is_run_plan bytes ≡ true → is_quit bytes ≡ false
plan_line bytes some is = other_line bytes (run_length (trimmed bytes)) 114 (codes "un") some refl (and_parts (reads_as (first_run bytes) (codes "run")) _ is).0

-- ---- the word `quit` alone

-- this is the only word of the line
record IsOnlyWord (bytes w : List ℕ) : Type 0 where
  alone : words bytes ≡ w ∷ []
  says : folded w ≡ codes "quit"

only_word : (bytes : List ℕ) → is_quit bytes ≡ true → (w : List ℕ) × IsOnlyWord bytes w
only_word bytes h = by_words (words bytes) refl h where
  by_words : (ws : List (List ℕ)) → words bytes ≡ ws → (length ws == 1 && reads_as (word_at ws 0) (codes "quit")) ≡ true → (w : List ℕ) × IsOnlyWord bytes w
  by_words [] e h = absurd (cc)
  by_words (w ∷ []) e h = (w, record { alone = e; says = same_text-is (folded w) (codes "quit") h })
  by_words (w ∷ v ∷ vs) e h =
      let many : (length (w ∷ v ∷ vs) == 1) ≡ false = grind (arith, nat_tests) in
      let one = (and_parts (length (w ∷ v ∷ vs) == 1) _ h).0 in
      absurd (cc)

is_name_word : (w : List ℕ) → folded w ≡ codes "quit" → class_of w ≡ Some class.Name
is_name_word w e = class_of-name w (sym (name_fault-folded w) ∙ ap name_fault e)

-- it has the form of `quit`
form_of_word : (w : List ℕ) → folded w ≡ codes "quit" → form_of (w ∷ []) ≡ Some Quit
form_of_word w e = rw e refl

-- its token
record IsOnlyToken (bytes w : List ℕ) (tokens : List Token) (x : Token) : Type 0 where
  alone : tokens ≡ x ∷ []
  named : x.class ≡ class.Name
  there : slice_range bytes x.from x.to ≡ w

only_token : (bytes w : List ℕ) (tokens : List Token) → AreTokens bytes tokens → words bytes ≡ w ∷ [] → class_of w ≡ Some class.Name → (x : Token) × IsOnlyToken bytes w tokens x
only_token bytes w tokens are alone named = by_tokens tokens refl (ap (map class_of) (sym alone) ∙ are.classed) (are.marked ∙ alone) where
  by_tokens : (ts : List Token) → tokens ≡ ts → class_of w ∷ [] ≡ map (λ t. Some t.class) ts → pieces bytes (map span_of ts) ≡ w ∷ [] → (x : Token) × IsOnlyToken bytes w tokens x
  by_tokens [] e classed marked = absurd (cc)
  by_tokens (x ∷ []) e classed marked =
      let class_is : Some x.class ≡ Some class.Name = cc in
      (x, record { alone = e; named = cc; there = cc })
  by_tokens (x ∷ y ∷ ts) e classed marked = absurd (cc)

-- one name alone fits
name_derived : (m : Mark) → mark.Name ≡ m → Derives (AnyName ∷ []) (m ∷ [])
name_derived m e = subst (λ (x : Mark). Derives (AnyName ∷ []) (x ∷ [])) e (by_rule AnyName [] mark.Name [] [] refl no_mark)

name_shallow : (m : Mark) → mark.Name ≡ m → IsShallowFrom (AnyName ∷ []) (m ∷ [])
name_shallow m e = subst (λ (x : Mark). IsShallowFrom (AnyName ∷ []) (x ∷ [])) e shallow where
  shallow : (at : ℕ) → IsTooDeepFrom (AnyName ∷ []) (mark.Name ∷ []) at → ⊥
  shallow zero deep = cc deep.0
  shallow (suc at) deep = cc deep.0

name_judged : (bytes : List ℕ) (tokens : List Token) (l : Lexeme) → mark.Name ≡ l.mark → IsJudged (AnyName ∷ []) bytes tokens (l ∷ []) (Ok (more (word l) none))
name_judged bytes tokens l e =
    fitting (more (word l) none) (name_derived l.mark e) (name_shallow l.mark e)
    (one_more (word l) none (l ∷ []) [] (bare l (λ o. absurd (cc)) (λ c. absurd (cc))) no_list) (rw (← e) refl)

-- its word
record IsOnlyLexeme (ls : List Lexeme) (l : Lexeme) : Type 0 where
  alone : ls ≡ l ∷ []
  named : mark.Name ≡ l.mark

mark_of_word : (bytes w : List ℕ) (table : Table) (x : Token) → x.class ≡ class.Name → slice_range bytes x.from x.to ≡ w → folded w ≡ codes "quit" → mark.Name ≡ (lexeme_of bytes table x).mark
mark_of_word bytes w table x named there says = rw (named, there) (sym (name_mark w says)) where
  name_mark : (w : List ℕ) → folded w ≡ codes "quit" → mark_of class.Name w ≡ mark.Name
  name_mark w e = rw e refl

only_lexeme : (bytes w : List ℕ) (table after : Table) (tokens : List Token) (ls : List Lexeme) (x : Token) → IsOnlyToken bytes w tokens x → folded w ≡ codes "quit" → lexemes_of bytes table tokens ≡ (ls, after) → IsOnlyLexeme ls (lexeme_of bytes table x)
only_lexeme bytes w table after tokens ls x one says e = record {
  alone = sym (ap (λ p. p.0) e) ∙ ap (λ (ts : List Token). (lexemes_of bytes table ts).0) one.alone;
  named = mark_of_word bytes w table x one.named one.there says;
}

-- so it isn't refused
no_misfit : (bytes w : List ℕ) (table after : Table) (tokens : List Token) (ls : List Lexeme) (at : ℕ) → IsOnlyWord bytes w → AreTokens bytes tokens → lexemes_of bytes table tokens ≡ (ls, after) → IsJudged (AnyName ∷ []) bytes tokens ls (Err at) → ⊥
no_misfit bytes w table after tokens ls at only are e judged =
    let token = only_token bytes w tokens are only.alone (is_name_word w only.says) in
    let one = only_lexeme bytes w table after tokens ls token.0 token.1 only.says e in
    let l = lexeme_of bytes table token.0 in
    let here : IsJudged (AnyName ∷ []) bytes tokens (l ∷ []) (Err at) = subst (λ (x : List Lexeme). IsJudged (AnyName ∷ []) bytes tokens x (Err at)) one.alone judged in
    let same = judged_one (AnyName ∷ []) bytes tokens (l ∷ []) (Err at) (Ok (more (word l) none)) here (name_judged bytes tokens l one.named) in
    cc

alone_there : (xs ys : List (List ℕ)) (v w : List ℕ) → xs ++ v ∷ ys ≡ w ∷ [] → v ≡ w
alone_there [] ys v w e = cc
alone_there (x ∷ []) ys v w e = absurd (cc)
alone_there (x ∷ y ∷ xs) ys v w e = absurd (cc)

no_fault : (bytes w : List ℕ) (at : ℕ) (fault : LexRefusal) → IsOnlyWord bytes w → IsFirstFault bytes at fault → ⊥
no_fault bytes w at fault only first =
    let v = slice_range bytes at first.to in
    let same : v ≡ w = alone_there (words (take at bytes)) (words (drop first.to bytes)) v w (sym first.placed.parts ∙ only.alone) in
    let named : class_of v ≡ Some class.Name = ap class_of same ∙ is_name_word w only.says in
    let found : class_at at v ≡ Ok class.Name = ap (λ o. ok_or o (fault_of_word at v)) named in
    let faulty = first.fault_is in
    cc

same_form : (a b : Form) → ◌≡◌ {A = Option Form} (Some a) (Some b) → a ≡ b
same_form a b e = cc

-- ---- what it is read as

abbrev IsEnd : Read → Type 0
IsEnd (reads.Line line) = line ≡ Good command.Quit
IsEnd r = Unit {0}

quit_said : (table : Table) (bytes : List ℕ) (r : Read) (after : Table) → is_quit bytes ≡ true → IsRead table bytes r after → IsEnd r
quit_said table bytes r after quits read =
    let w = (only_word bytes quits).0 in
    let only = (only_word bytes quits).1 in
    let form : form_of (words bytes) ≡ Some Quit = ap form_of only.alone ∙ form_of_word w only.says in
    elim read as (λ r a i. IsEnd r) [
      | nothing e ↦ tt
      | source file some is e ↦ tt
      | source_nothing some is e ↦ let other = source_line bytes some is in absurd (cc)
      | run_plan file some other is e ↦ tt
      | run_nothing some no_source is e ↦ let other = plan_line bytes some is in absurd (cc)
      | without_class at p f ↦ absurd (no_fault bytes w at _ only f)
      | without_number at p f ↦ absurd (no_fault bytes w at _ only f)
      | without_form tokens p are f ↦ absurd (cc)
      | without_shape f tokens ls after at is e judged ↦
          let same = same_form f Quit (sym is.form_is ∙ form) in
          absurd (no_misfit bytes w table after tokens ls at only is.are_tokens e (subst (λ (x : Form). IsJudged (start_of x) bytes tokens ls (Err at)) same judged))
      | good f tokens ls after ts said is e judged means ↦
          let same = same_form f Quit (sym is.form_is ∙ form) in
          ap Good (sym means ∙ ap (λ (x : Form). command_of x ts) same)
    ]

-- ---- what is read so

quit_form : (f : Form) (ts : Nesteds) → command_of f ts ≡ command.Quit → f ≡ Quit
quit_form Quit ts e = refl
quit_form f ts e = absurd (cc)

-- the first form of a table that fits is `quit`, where no other entry is
module _ (ws : List (List ℕ)) where
  abbrev IsOther : List (List ℕ) × Form → Type 0
  IsOther entry = entry.1 ≡ Quit → begins ws 0 entry.0 ≡ true → reads_as (word_at ws 0) (codes "quit") ≡ true

  abbrev AreOther : List (List (List ℕ) × Form) → Type 0
  AreOther [] = Unit {0}
  AreOther (entry ∷ others) = IsOther entry × AreOther others

  found : (table : List (List (List ℕ) × Form)) → AreOther table → form_in table ws ≡ Some Quit → reads_as (word_at ws 0) (codes "quit") ≡ true
  found [] all e = absurd (cc)
  found ((fixed, f) ∷ others) all e = by_test (begins ws 0 fixed) refl e (found others all.1) where
    by_test : (b : Bool) → begins ws 0 fixed ≡ b → (if b then Some f else form_in others ws) ≡ Some Quit → (form_in others ws ≡ Some Quit → reads_as (word_at ws 0) (codes "quit") ≡ true) → reads_as (word_at ws 0) (codes "quit") ≡ true
    by_test true t e later = all.0 (same_form f Quit e) t
    by_test false t e later = later e

  three : AreOther three_words
  three = (λ e _. absurd (cc), (λ e _. absurd (cc), (λ e _. absurd (cc), (λ e _. absurd (cc), (λ e _. absurd (cc), (λ e _. absurd (cc), (λ e _. absurd (cc), (λ e _. absurd (cc), (λ e _. absurd (cc), (λ e _. absurd (cc), tt))))))))))

  two : AreOther two_words
  two = (λ e _. absurd (cc), (λ e _. absurd (cc), (λ e _. absurd (cc), (λ e _. absurd (cc), (λ e _. absurd (cc), (λ e _. absurd (cc), (λ e _. absurd (cc), (λ e _. absurd (cc), (λ e _. absurd (cc), (λ e _. absurd (cc), (λ e _. absurd (cc), (λ e _. absurd (cc), tt))))))))))))

  one : AreOther one_word
  one = (λ e h. (and_parts (reads_as (word_at ws 0) (codes "quit")) true h).0, (λ e _. absurd (cc), tt))

  begins_quit : form_of ws ≡ Some Quit → reads_as (word_at ws 0) (codes "quit") ≡ true
  begins_quit e = by_three (form_in three_words ws) refl e where
    by_two : (o : Option Form) → form_in two_words ws ≡ o → option_or o (form_in one_word ws) ≡ Some Quit → reads_as (word_at ws 0) (codes "quit") ≡ true
    by_two (Some f) t e = found two_words two (t ∙ e)
    by_two None t e = found one_word one e

    by_three : (o : Option Form) → form_in three_words ws ≡ o → option_or o (option_or (form_in two_words ws) (form_in one_word ws)) ≡ Some Quit → reads_as (word_at ws 0) (codes "quit") ≡ true
    by_three (Some f) t e = found three_words three (t ∙ e)
    by_three None t e = by_two (form_in two_words ws) refl e

-- one name is one word
name_alone : (b : Bool) (new : List Symbol) → where_it_is b [] ≡ Some new → new ≡ []
name_alone true new e = cc
name_alone false new e = absurd (cc)

no_more : (start : List Symbol) (ms : List Mark) → start ≡ [] → Derives start ms → ms ≡ []
no_more _ _ e no_mark = refl
no_more _ _ e (by_rule s st m ms new rule rest) = absurd (cc)

one_mark : (start : List Symbol) (ms : List Mark) → start ≡ AnyName ∷ [] → Derives start ms → length ms ≡ 1
one_mark _ _ e no_mark = absurd (cc)
one_mark _ _ e (by_rule s st m ms new rule rest) =
    let first : s ≡ AnyName = cc in
    let last : st ≡ [] = cc in
    let end : new ++ st ≡ [] = rw (last, name_alone (is_name m) new (ap (λ x. step x m) (sym first) ∙ rule)) refl in
    ap (λ (xs : List Mark). suc (length xs)) (no_more (new ++ st) ms end rest)

lexeme_count : (bytes : List ℕ) (table : Table) (tokens : List Token) → length (lexemes_of bytes table tokens).0 ≡ length tokens
lexeme_count bytes table [] = refl
lexeme_count bytes table (x ∷ tokens) = ap suc (lexeme_count bytes (table_after bytes table x) tokens)

abbrev Ends : List ℕ → Read → Type 0
Ends bytes (reads.Line line) = line ≡ Good command.Quit → is_quit bytes ≡ true
Ends bytes r = Unit {0}

quit_told : (table : Table) (bytes : List ℕ) (r : Read) (after : Table) → IsRead table bytes r after → Ends bytes r
quit_told table bytes r after read =
    elim read as (λ r a i. Ends bytes r) [
      | nothing e ↦ tt
      | source file some is e ↦ tt
      | source_nothing some is e ↦ λ q. absurd (cc)
      | run_plan file some other is e ↦ tt
      | run_nothing some other is e ↦ λ q. absurd (cc)
      | without_class at p f ↦ λ q. absurd (cc)
      | without_number at p f ↦ λ q. absurd (cc)
      | without_form tokens p are f ↦ λ q. absurd (cc)
      | without_shape f tokens ls after at is e judged ↦ λ q. absurd (cc)
      | good f tokens ls after ts said is e judged means ↦ λ q.
          let quits : said ≡ command.Quit = cc in
          let same = quit_form f ts (means ∙ quits) in
          let derived = subst (λ (x : Form). Derives (start_of x) (marks ls)) same (fitting_parts (start_of f) bytes tokens ls (Ok ts) judged).derived in
          let few : length (words bytes) ≡ 1 =
          omega (
            arith,
            one_mark (AnyName ∷ []) (marks ls) refl derived,
            length-map ls (λ (l : Lexeme). l.mark),
            ap (λ (p : List Lexeme × Table). length p.0) e,
            lexeme_count bytes table tokens,
            ap length is.are_tokens.classed,
            length-map (words bytes) class_of,
            length-map tokens (λ (t : Token). Some t.class),
          ) in
          rw (few, begins_quit (words bytes) (is.form_is ∙ ap (λ (x : Form). Some x) same)) refl
    ]

-- ---- both

not_quit : (line : Line) → (line ≡ Good command.Quit → ⊥) → ends_script line ≡ false
not_quit (Good command.Quit) other = absurd (other refl)
not_quit line other = refl

-- a command line is read as the end of a script exactly where it is `quit`
pub ends_where_quit : (table : Table) (bytes : List ℕ) (line : Line) (after : Table) → IsRead table bytes (reads.Line line) after → ends_script line ≡ is_quit bytes
ends_where_quit table bytes line after read =
    elim (cases_Bool (is_quit bytes)) [
      | inl quits ↦ ap ends_script (quit_said table bytes (reads.Line line) after quits read) ∙ sym quits
      | inr other ↦ not_quit line (λ q. let quits = quit_told table bytes (reads.Line line) after read q in cc) ∙ sym other
    ]
