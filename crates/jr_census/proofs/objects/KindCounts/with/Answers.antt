use Rattle.std.proofs.Common.{◌≤◌, arith}
use Rattle.jr_word.specs.declared.kind.Kind.TheVariants.{Plain, Boolean, Byte, Char, Short, Int, Long, Objects, Text}
use Rattle.jr_census.proofs.objects.KindCounts.with.Goals as goal

pub overflow_add-counts : goal.overflow_add-counts
overflow_add-counts c = let few : c.args.self.plain ≤ 65535 = c.requires Plain in omega arith

pub overflow_add-counts-in-Boolean : goal.overflow_add-counts-in-Boolean
overflow_add-counts-in-Boolean c = let few : c.args.self.booleans ≤ 65535 = c.requires Boolean in omega arith

pub overflow_add-counts-in-Byte : goal.overflow_add-counts-in-Byte
overflow_add-counts-in-Byte c = let few : c.args.self.bytes ≤ 65535 = c.requires Byte in omega arith

pub overflow_add-counts-in-Char : goal.overflow_add-counts-in-Char
overflow_add-counts-in-Char c = let few : c.args.self.chars ≤ 65535 = c.requires Char in omega arith

pub overflow_add-counts-in-Short : goal.overflow_add-counts-in-Short
overflow_add-counts-in-Short c = let few : c.args.self.shorts ≤ 65535 = c.requires Short in omega arith

pub overflow_add-counts-in-Int : goal.overflow_add-counts-in-Int
overflow_add-counts-in-Int c = let few : c.args.self.ints ≤ 65535 = c.requires Int in omega arith

pub overflow_add-counts-in-Long : goal.overflow_add-counts-in-Long
overflow_add-counts-in-Long c = let few : c.args.self.longs ≤ 65535 = c.requires Long in omega arith

pub overflow_add-counts-in-Objects : goal.overflow_add-counts-in-Objects
overflow_add-counts-in-Objects c = let few : c.args.self.objects ≤ 65535 = c.requires Objects in omega arith

pub overflow_add-counts-in-Text : goal.overflow_add-counts-in-Text
overflow_add-counts-in-Text c = let few : c.args.self.strings ≤ 65535 = c.requires Text in omega arith
