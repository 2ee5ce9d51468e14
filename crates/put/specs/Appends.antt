-- What a writer does to itself.
use Rattle.std.specs.Prelude.{◌≡◌, ℕ, List}
use Rattle.put.specs.declared.writer.Writer.{Writer}
use Rattle.put.specs.Puts.{Puts}

-- `bytes` were put from the writer's place on, into the buffer that it holds and goes on holding.
pub record Appends (bytes : List ℕ) (before after : Writer) : Type 0 where
  pub same_reference : after.out.ghost_name ≡ before.out.ghost_name
  pub puts : Puts bytes before.out.now before.at after.at after.out.now

-- The writer went to a place, and wrote nothing.
pub record Goes (at : ℕ) (before after : Writer) : Type 0 where
  pub same_reference : after.out.ghost_name ≡ before.out.ghost_name
  pub leaves : after.out.now ≡ before.out.now
  pub place : after.at ≡ at
