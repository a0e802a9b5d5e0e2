-- What the two characters in force own is only facts: for loops whose state holds them.
use denote.Struct.Struct.{Plains}
use denote.Struct.Declared.{fields}
use denote.Struct.Laws.{u8-plain, bool-plain}
use Rattle.text_specials.specs.contracts.Chars as chars

abbrev pub chars-plain : Plains (fields chars.the_type)
chars-plain = (u8-plain, (u8-plain, (bool-plain, (bool-plain, tt))))
