-- What a header text is, with no word of how it is read: its length, a field of as many bytes, and the rest.
use Rattle.std.specs.Prelude.{◌≡◌, ◌⊎◌, ◌↔◌, List, ℕ, ◌∷◌, ◌++◌, length, Ok, Result}
use Rattle.std.specs.List.{Contains}
use Rattle.wire.specs.declared.order.ByteOrder.{ByteOrder}
use Rattle.wire.specs.Numbers.{number_of}
use Rattle.text.specs.declared.strings.TextFault.{TextFault}
use Rattle.text.specs.Strings.{Read}
use Rattle.text.specs.Table.{WellFormed}

-- A field holds a text: nothing follows the text, or a NUL and padding do. The text itself has no NUL.
pub record FieldHolds (field text : List ℕ) : Type 0 where
  pub padded : (field ≡ text) ⊎ ((padding : List ℕ) × (field ≡ text ++ 0 ∷ padding))
  pub bare : ¬ Contains text 0

-- A section begins with a header text: four bytes say how many a field has, the field holds the text, and the rest follows.
-- The text is well formed.
pub record IsHeaderText (order : ByteOrder) (section text rest : List ℕ) : Type 0 where
  pub len : List ℕ
  pub field : List ℕ
  pub bytes : section ≡ len ++ field ++ rest
  pub four : length len ≡ 4
  pub says : number_of order len ≡ length field
  pub holds : FieldHolds field text
  pub formed : WellFormed text

-- A text and a rest are read exactly where the section begins with that text and goes on with that rest.
abbrev pub ReadsHeaderText : ByteOrder → List ℕ → Result Read TextFault → Type 0
ReadsHeaderText order section answer =
    (text rest : List ℕ) → (answer ≡ Ok (record { text = text; rest = rest })) ↔ IsHeaderText order section text rest
