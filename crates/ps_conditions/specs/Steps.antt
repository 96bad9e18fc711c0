-- Reading, step by step.
use Rattle.std.specs.Prelude.{Result, Ok, Err}

infixl 10 ◌>>=◌
-- one step and then, if it isn't refused, another
abbrev pub ◌>>=◌ : {A B R : Type 0} → Result A R → (A → Result B R) → Result B R
(Ok x) >>= f = f x
(Err refusal) >>= f = Err refusal

-- What a step gives, what a step is that has nothing to read, and how another follows it.
pub record Steps : Type 1 where
  pub Step : Type 0 → Type 0
  pub done : {A : Type 0} → A → Step A
  pub then : {A B : Type 0} → Step A → (A → Step B) → Step B

-- steps of which each may be refused: nothing is read after the first that is
abbrev pub refusable : Type 0 → Steps
refusable R = record { Step = λ A. Result A R; done = λ x. Ok x; then = λ a f. a >>= f }

-- steps that are never refused
abbrev pub certain : Steps
certain = record { Step = λ A. A; done = λ x. x; then = λ a f. f a }
