-- What a section of texts says, with no word of how it is read.
use Rattle.std.specs.Prelude.{◌≡◌, ℕ, List, [], ◌∷◌, length, drop, Some}
use Rattle.wire.specs.Numbers.{number}
use Rattle.wire.specs.declared.order.ByteOrder.{ByteOrder}
use Rattle.text.specs.HeaderTexts.{IsHeaderText}

-- A section says a text: it begins with that header text. What follows is not looked at.
abbrev pub SaysText : ByteOrder → List ℕ → List ℕ → Type 0
SaysText order section text = (rest : List ℕ) × IsHeaderText order section text rest

-- Header texts stand one behind the other at the front of some bytes.
abbrev pub TextsFollow : ByteOrder → List ℕ → List (List ℕ) → Type 0
TextsFollow order bytes [] = Unit
TextsFollow order bytes (text ∷ texts) = (rest : List ℕ) × IsHeaderText order bytes text rest × TextsFollow order rest texts

-- A section says some texts: a number of 32 bits, how many they are, and then the texts one behind the other.
abbrev pub SaysTexts : ByteOrder → List ℕ → List (List ℕ) → Type 0
SaysTexts order section texts = (number order 4 section ≡ Some (length texts)) × TextsFollow order (drop 4 section) texts
