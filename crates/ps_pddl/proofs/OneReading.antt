-- A text is read as one thing at most.
use Rattle.std.proofs.Common.{◌≡◌, ℕ, List, Err, refl, sym, ap, subst, ◌∙◌, ◌⊎◌, inl, inr}
use Rattle.ps_world.specs.Names.{Table}
use Rattle.ps_text.specs.Tokens.{IsFirstFault}
use Rattle.ps_text.specs.declared.lexing.LexRefusal.{LexRefusal}
use Rattle.ps_text.specs.declared.lexing.LexRefusal.TheVariants.{Bad, Number}
use Rattle.ps_text.proofs.OneLexing.{tokens_are_one, faults_are_one, tokens_are_faultless}
use Rattle.ps_grammar.specs.Shape as shape
use Rattle.ps_grammar.proofs.OneFault.{faults_are_first, faults_are_real}
use Rattle.ps_pddl.specs.Laws.{ReadingsAreOne}
use Rattle.ps_lists.specs.Lexemes.{lexemes_of}
use Rattle.ps_pddl.specs.Meaning.{domain_of}
use Rattle.ps_lists.specs.Lexemes.{marks}
use Rattle.ps_pddl.specs.Reading.{HasWords, misshapen}
use Rattle.ps_pddl.specs.Reading.IsRead.{without_class, without_shape, with_meaning}
use Rattle.ps_lists.specs.Spelling.{SpellAll}
use Rattle.ps_lists.specs.declared.lexemes.Lexeme.{Lexeme}
use Rattle.ps_pddl.specs.declared.refusals.DomainRefusal.TheVariants.{Lex}
use Rattle.ps_lists.proofs.OneSpelling.{one_spelling}

-- a word without a class, of either kind
fault_here : (bytes : List ℕ) (at : ℕ) → IsFirstFault bytes at (Bad at) ⊎ IsFirstFault bytes at (Number at) → (f : LexRefusal) × IsFirstFault bytes at f
fault_here bytes at (inl x) = (Bad at, x)
fault_here bytes at (inr x) = (Number at, x)

-- a text with words has no word without a class
all_classed : (table : Table) (bytes : List ℕ) (ls : List Lexeme) (after : Table) (at : ℕ) → HasWords table bytes ls after → IsFirstFault bytes at (Bad at) ⊎ IsFirstFault bytes at (Number at) → ⊥
all_classed table bytes ls after at words x =
    let f = fault_here bytes at x in
    tokens_are_faultless bytes at f.0 words.tokens f.1 words.are_tokens

-- a text's words are one list, with one table after them
one_words : (table : Table) (bytes : List ℕ) (ls ms : List Lexeme) (after other : Table) → HasWords table bytes ls after → HasWords table bytes ms other → (ls ≡ ms) × (after ≡ other)
one_words table bytes ls ms after other words also =
    let same = tokens_are_one bytes words.tokens also.tokens words.are_tokens also.are_tokens in
    let both = sym words.words ∙ ap (lexemes_of bytes table) same ∙ also.words in
    (ap (λ x. x.0) both, ap (λ x. x.1) both)

pub readings_are_one : ReadingsAreOne
readings_are_one table bytes _ _ _ _ (without_class at x) (without_class there y) =
    let f = fault_here bytes at x in
    let g = fault_here bytes there y in
    (ap (λ k. Err (Lex k)) (faults_are_one bytes at there f.0 g.0 f.1 g.1).0, refl)
readings_are_one table bytes _ _ _ _ (without_class at x) (without_shape ms other g also y) = absurd (all_classed table bytes ms other at also x)
readings_are_one table bytes _ _ _ _ (without_class at x) (with_meaning ms other us s also p q v m) = absurd (all_classed table bytes ms other at also x)
readings_are_one table bytes _ _ _ _ (without_shape ls after f words x) (without_class at y) = absurd (all_classed table bytes ls after at words y)
readings_are_one table bytes _ _ _ _ (without_shape ls after f words x) (without_shape ms other g also y) =
    let both = one_words table bytes ls ms after other words also in
    let same : f ≡ g = faults_are_first f g (marks ms) (subst (λ l. shape.Refuses f (marks l)) both.0 x) y in
    (ap (λ l. Err (misshapen bytes l f)) both.0 ∙ ap (λ k. Err (misshapen bytes ms k)) same, both.1)
readings_are_one table bytes _ _ _ _ (without_shape ls after f words x) (with_meaning ms other us s also p q w m) =
    let both = one_words table bytes ls ms after other words also in
    absurd (faults_are_real f (marks ms) (subst (λ l. shape.Refuses f (marks l)) both.0 x) p q)
readings_are_one table bytes _ _ _ _ (with_meaning ls after ts r words p q w m) (without_class at y) = absurd (all_classed table bytes ls after at words y)
readings_are_one table bytes _ _ _ _ (with_meaning ls after ts r words p q w m) (without_shape ms other g also y) =
    let both = one_words table bytes ls ms after other words also in
    absurd (faults_are_real g (marks ls) (subst (λ l. shape.Refuses g (marks l)) (sym both.0) y) p q)
readings_are_one table bytes _ _ _ _ (with_meaning ls after ts r words p q w m) (with_meaning ms other us s also h k v n) =
    let both = one_words table bytes ls ms after other words also in
    let same : ts ≡ us = one_spelling ts us ms (subst (SpellAll ts) both.0 w) v in
    (sym m ∙ ap domain_of same ∙ n, both.1)
