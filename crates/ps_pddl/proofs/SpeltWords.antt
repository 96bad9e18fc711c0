-- Words that spell a word or a list with some property, wherever the words stand.
use Rattle.std.proofs.Common.{◌≡◌, ℕ, Bool, true, false, Some, List, [], ◌∷◌, ◌++◌, codes, refl, sym, ap, ◌∙◌, subst, append_assoc, append-nil}
use Rattle.std.specs.List.{All, flat_map}
use Rattle.std.proofs.lemmas.List.Elements.{All-head, All-tail}
use Rattle.ps_world.specs.Names.{Table}
use Rattle.ps_text.specs.Tokens.{class_of}
use Rattle.ps_text.specs.declared.lexing.Class.{Class}
use Rattle.ps_text.specs.declared.lexing.Class.TheVariants as class
use Rattle.ps_grammar.specs.declared.marks.Mark.{Mark}
use Rattle.ps_grammar.specs.declared.marks.Mark.TheVariants as mark
use Rattle.ps_lists.specs.Lexemes.{mark_of}
use Rattle.ps_lists.specs.Nested.{Nested, Nesteds, word, group, none, more}
use Rattle.ps_lists.specs.Spelling.{Spells, SpellAll}
use Rattle.ps_lists.specs.Spelling.Spells.{plain, between}
use Rattle.ps_lists.specs.Spelling.SpellAll.{nothing, one_more}
use Rattle.ps_lists.specs.declared.lexemes.Lexeme.{Lexeme}
use Rattle.ps_print.specs.CanonicalWords.{grouped}
use Rattle.ps_pddl.proofs.CanonicalForms.{joined, AreForms, no_items, more_items}
use Rattle.ps_pddl.proofs.WordLexemes.{IsLexemeOf, AreLexemes}
use Rattle.ps_pddl.proofs.WordLexemes.AreLexemes.{no_words, more_words}

-- these words spell a word or a list with this property
pub record Spelt (names : Table) (ws : List (List ℕ)) (P : Nested → Type 0) : Type 0 where
  pub spells : (ls : List Lexeme) → AreLexemes names ws ls → (t : Nested) × Spells t ls × P t

-- these words spell several with this property
pub record AllSpelt (names : Table) (ws : List (List ℕ)) (P : Nesteds → Type 0) : Type 0 where
  pub spells : (ls : List Lexeme) → AreLexemes names ws ls → (ts : Nesteds) × SpellAll ts ls × P ts

-- ---- words

-- whether a mark is none of a parenthesis
abbrev pub is_plain : Mark → Bool
is_plain mark.Open = false
is_plain mark.Close = false
is_plain m = true

no_open : (m : Mark) → is_plain m ≡ true → m ≡ mark.Open → ⊥
no_open m p e = (let no : false ≡ true = sym (ap is_plain e) ∙ p in absurd (cc))

no_close : (m : Mark) → is_plain m ≡ true → m ≡ mark.Close → ⊥
no_close m p e = (let no : false ≡ true = sym (ap is_plain e) ∙ p in absurd (cc))

spells_word : (names : Table) (w : List ℕ) (c : Class) (l : Lexeme) → class_of w ≡ Some c → is_plain (mark_of c w) ≡ true → IsLexemeOf names w l → Spells (word l) (l ∷ [])
spells_word names w c l is p one =
    let same = one.mark c is in
    let fits : is_plain l.mark ≡ true = ap is_plain same ∙ p in
    plain l (no_open l.mark fits) (no_close l.mark fits)

alone_of : (names : Table) (w : List ℕ) (c : Class) (P : Nested → Type 0) → class_of w ≡ Some c → is_plain (mark_of c w) ≡ true → ((l : Lexeme) → IsLexemeOf names w l → P (word l)) → (ls : List Lexeme) → AreLexemes names (w ∷ []) ls → (t : Nested) × Spells t ls × P t
alone_of names w c P is p next _ (more_words _ _ l _ one no_words) = (word l, spells_word names w c l is p one, next l one)

-- one word
pub word_alone : {names : Table} {P : Nested → Type 0} (w : List ℕ) (c : Class) → class_of w ≡ Some c → is_plain (mark_of c w) ≡ true → ((l : Lexeme) → IsLexemeOf names w l → P (word l)) → Spelt names (w ∷ []) P
word_alone {names} {P} w c is p next = record { spells = alone_of names w c P is p next }

first_of : (names : Table) (w : List ℕ) (ws : List (List ℕ)) (c : Class) (P : Nesteds → Type 0) → class_of w ≡ Some c → is_plain (mark_of c w) ≡ true → ((l : Lexeme) → IsLexemeOf names w l → AllSpelt names ws (λ ts. P (more (word l) ts)))
    → (ls : List Lexeme) → AreLexemes names (w ∷ ws) ls → (ts : Nesteds) × SpellAll ts ls × P ts
first_of names w ws c P is p next _ (more_words _ _ l ls one rest) =
    let r = (next l one).spells ls rest in
    (more (word l) r.0, one_more (word l) r.0 (l ∷ []) ls (spells_word names w c l is p one) r.1, r.2)

-- a word before others
pub word_first : {names : Table} {ws : List (List ℕ)} {P : Nesteds → Type 0} (w : List ℕ) (c : Class) → class_of w ≡ Some c → is_plain (mark_of c w) ≡ true
    → ((l : Lexeme) → IsLexemeOf names w l → AllSpelt names ws (λ ts. P (more (word l) ts))) → AllSpelt names (w ∷ ws) P
word_first {names} {ws} {P} w c is p next = record { spells = first_of names w ws c P is p next }

none_of : (names : Table) (P : Nesteds → Type 0) → P none → (ls : List Lexeme) → AreLexemes names [] ls → (ts : Nesteds) × SpellAll ts ls × P ts
none_of names P p _ no_words = (none, nothing, p)

-- no words
pub nothing_spelt : {names : Table} {P : Nesteds → Type 0} → P none → AllSpelt names [] P
nothing_spelt {names} {P} p = record { spells = none_of names P p }

-- ---- parts

-- words in two parts
record Parts (names : Table) (ws us : List (List ℕ)) (ls : List Lexeme) : Type 0 where
  first : List Lexeme
  second : List Lexeme
  is : first ++ second ≡ ls
  firsts : AreLexemes names ws first
  seconds : AreLexemes names us second

in_parts : (names : Table) (ws us : List (List ℕ)) (ls : List Lexeme) → AreLexemes names (ws ++ us) ls → Parts names ws us ls
in_parts names [] us ls are = record { first = []; second = ls; is = refl; firsts = no_words; seconds = are }
in_parts names (w ∷ ws) us _ (more_words _ _ l ls one rest) =
    let r = in_parts names ws us ls rest in
    record { first = l ∷ r.first; second = r.second; is = ap (λ x. l ∷ x) r.is; firsts = more_words w ws l r.first one r.firsts; seconds = r.seconds }

spell_joined : (ts us : Nesteds) (ls ms : List Lexeme) → SpellAll ts ls → SpellAll us ms → SpellAll (joined ts us) (ls ++ ms)
spell_joined _ us _ ms nothing s = s
spell_joined _ us _ ms (one_more t ts ks ls first rest) s =
    subst (SpellAll (more t (joined ts us))) (sym (append_assoc ks ls ms)) (one_more t (joined ts us) ks (ls ++ ms) first (spell_joined ts us ls ms rest s))

-- one before others
pub one_first : {names : Table} {ws us : List (List ℕ)} {Q : Nested → Type 0} {P : Nesteds → Type 0} → Spelt names ws Q → ((t : Nested) → Q t → AllSpelt names us (λ ts. P (more t ts))) → AllSpelt names (ws ++ us) P
one_first {names} {ws} {us} {Q} {P} s next = record {
  spells = λ ls are.
      let parts = in_parts names ws us ls are in
      let one = s.spells parts.first parts.firsts in
      let rest = (next one.0 one.2).spells parts.second parts.seconds in
      (more one.0 rest.0, subst (SpellAll (more one.0 rest.0)) parts.is (one_more one.0 rest.0 parts.first parts.second one.1 rest.1), rest.2);
}

-- several before others
pub all_first : {names : Table} {ws us : List (List ℕ)} {Q P : Nesteds → Type 0} → AllSpelt names ws Q → ((ts : Nesteds) → Q ts → AllSpelt names us (λ us. P (joined ts us))) → AllSpelt names (ws ++ us) P
all_first {names} {ws} {us} {Q} {P} s next = record {
  spells = λ ls are.
      let parts = in_parts names ws us ls are in
      let some = s.spells parts.first parts.firsts in
      let rest = (next some.0 some.2).spells parts.second parts.seconds in
      (joined some.0 rest.0, subst (SpellAll (joined some.0 rest.0)) parts.is (spell_joined some.0 rest.0 parts.first parts.second some.1 rest.1), rest.2);
}

-- one, with another property
pub one_as : {names : Table} {ws : List (List ℕ)} {Q P : Nested → Type 0} → Spelt names ws Q → ((t : Nested) → Q t → P t) → Spelt names ws P
one_as {names} {ws} {Q} {P} s next = record { spells = λ ls are. let one = s.spells ls are in (one.0, one.1, next one.0 one.2) }

-- one, and no others
pub one_last : {names : Table} {ws : List (List ℕ)} {Q : Nested → Type 0} {P : Nesteds → Type 0} → Spelt names ws Q → ((t : Nested) → Q t → P (more t none)) → AllSpelt names ws P
one_last {names} {ws} {Q} {P} s next = record {
  spells = λ ls are.
      let one = s.spells ls are in
      (more one.0 none, subst (SpellAll (more one.0 none)) (append-nil ls) (one_more one.0 none ls [] one.1 nothing), next one.0 one.2);
}

-- several, and no others
pub all_last : {names : Table} {ws : List (List ℕ)} {Q P : Nesteds → Type 0} → AllSpelt names ws Q → ((ts : Nesteds) → Q ts → P ts) → AllSpelt names ws P
all_last {names} {ws} {Q} {P} s next = record { spells = λ ls are. let some = s.spells ls are in (some.0, some.1, next some.0 some.2) }

-- ---- parentheses

one_word : (names : Table) (w : List ℕ) (ls : List Lexeme) → AreLexemes names (w ∷ []) ls → (l : Lexeme) × (ls ≡ l ∷ []) × IsLexemeOf names w l
one_word names w _ (more_words _ _ l _ one no_words) = (l, refl, one)

group_of : (names : Table) (ws : List (List ℕ)) (P : Nested → Type 0) → AllSpelt names ws (λ ts. P (group ts)) → (ls : List Lexeme) → AreLexemes names (grouped ws) ls → (t : Nested) × Spells t ls × P t
group_of names ws P s _ (more_words _ _ left ls one rest) =
    let parts = in_parts names ws (codes ")" ∷ []) ls rest in
    let right = one_word names (codes ")") parts.second parts.seconds in
    let inner = s.spells parts.first parts.firsts in
    let whole : parts.first ++ right.0 ∷ [] ≡ ls = ap (λ x. parts.first ++ x) (sym right.1) ∙ parts.is in
    (group inner.0, subst (λ x. Spells (group inner.0) (left ∷ x)) whole (between left right.0 inner.0 parts.first (one.mark class.LeftParen refl) (right.2.mark class.RightParen refl) inner.1), inner.2)

-- words between two parentheses
pub group_spelt : {names : Table} {ws : List (List ℕ)} {P : Nested → Type 0} → AllSpelt names ws (λ ts. P (group ts)) → Spelt names (grouped ws) P
group_spelt {names} {ws} {P} s = record { spells = group_of names ws P s }

-- a list between two parentheses
record Grouping (Q : Nesteds → Type 0) (t : Nested) : Type 0 where
  inner : Nesteds
  is : group inner ≡ t
  form : Q inner

grouping_spelt : {names : Table} {ws : List (List ℕ)} {Q : Nesteds → Type 0} → AllSpelt names ws Q → Spelt names (grouped ws) (Grouping Q)
grouping_spelt s = group_spelt (all_last s (λ ts q. record { inner = ts; is = refl; form = q }))

-- words between two parentheses before others
pub group_first : {names : Table} {ws us : List (List ℕ)} {Q P : Nesteds → Type 0} → AllSpelt names ws Q → ((ts : Nesteds) → Q ts → AllSpelt names us (λ rest. P (more (group ts) rest))) → AllSpelt names (grouped ws ++ us) P
group_first {names} {ws} {us} {Q} {P} s next = one_first (grouping_spelt s) (λ t g. subst (λ x. AllSpelt names us (λ rest. P (more x rest))) g.is (next g.inner g.form))

-- words between two parentheses, and no others
pub group_last : {names : Table} {ws : List (List ℕ)} {Q P : Nesteds → Type 0} → AllSpelt names ws Q → ((ts : Nesteds) → Q ts → P (more (group ts) none)) → AllSpelt names (grouped ws) P
group_last {names} {ws} {Q} {P} s next = one_last (grouping_spelt s) (λ t g. subst (λ x. P (more x none)) g.is (next g.inner g.form))

-- ---- lists

pub spelt_each : (names : Table) {X : Type 0} (R : X → Type 0) (f : X → List (List ℕ)) (P : X → Nested → Type 0) → ((x : X) → R x → Spelt names (f x) (P x)) → (xs : List X) → All R xs → AllSpelt names (flat_map f xs) (AreForms P xs)
spelt_each names R f P each [] h = nothing_spelt no_items
spelt_each names R f P each (x ∷ xs) h =
    one_first (each x (All-head R x xs h)) (λ t form.
    all_last (spelt_each names R f P each xs (All-tail R x xs h)) (λ ts forms. more_items x xs t ts form forms))

-- a word with this mark, and what follows it
pub data AfterWord (m : Mark) (P : Nesteds → Type 0) : Nesteds → Type 0 where
  after_word : (l : Lexeme) (ts : Nesteds) → l.mark ≡ m → P ts → AfterWord m P (more (word l) ts)

pub spelt_and : {names : Table} {ws : List (List ℕ)} {P : Nesteds → Type 0} → AllSpelt names ws P → AllSpelt names (codes "and" ∷ ws) (AfterWord mark.And P)
spelt_and s = word_first (codes "and") class.Name refl refl (λ l is. all_last s (λ ts p. after_word l ts (is.mark class.Name refl) p))
