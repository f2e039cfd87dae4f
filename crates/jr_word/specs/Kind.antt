-- Kinds of objects, by number, and the words of their elements.
use Rattle.std.specs.Prelude.{ℕ, ◌^◌}
use Rattle.jr_word.specs.declared.kind.Kind.{Kind}
use Rattle.jr_word.specs.declared.kind.Kind.TheVariants.{Plain, Boolean, Byte, Char, Short, Int, Long, Objects, Text}

-- the number of a kind
abbrev pub kind_code : Kind → ℕ
kind_code Plain = 1
kind_code Boolean = 2
kind_code Byte = 3
kind_code Char = 4
kind_code Short = 5
kind_code Int = 6
kind_code Long = 7
kind_code Objects = 8
kind_code Text = 9

-- how many words an element of a kind can be, from 0 up: none at a plain object; at an array of objects 0 or a number
abbrev pub word_limit : Kind → ℕ
word_limit Plain = 0
word_limit Boolean = 2
word_limit Byte = 2 ^ 8
word_limit Char = 2 ^ 16
word_limit Short = 2 ^ 16
word_limit Int = 2 ^ 32
word_limit Long = 2 ^ 64
word_limit Objects = 2 ^ 16
word_limit Text = 2 ^ 16
