-- A legal history keeps the laws.
use Rattle.std.proofs.Common.{ℕ, subst}
use Rattle.jr_word.specs.declared.config.Config.{Config}
use Rattle.jr_model.specs.History.{History, IsLegal}
use Rattle.jr_model.specs.Laws.{KeepsTheLaws}
use Rattle.jr_model.proofs.Gates.{no_collection_inside}
use Rattle.jr_model.proofs.Histories.{legal_append}
use Rattle.jr_model.proofs.References.{created_once, deleted_is_not_created, deleted_is_stale, one_an_index}

pub lawful : (c : Config) (last : ℕ) (es : History) → IsLegal c last es → KeepsTheLaws es
lawful c last es l = record {
  once = λ h t u o p before between rest is.
      created_once c last h t u o p before between rest (subst (IsLegal c last) is l);
  one = λ g h before rest is.
      one_an_index c last before g h ((legal_append c last before rest).0 (subst (IsLegal c last) is l)).0;
  stale = λ h t u r before between rest is.
      deleted_is_stale c last h t u r before between rest (subst (IsLegal c last) is l);
  not_again = λ h t u o before between rest is.
      deleted_is_not_created c last h t u o before between rest (subst (IsLegal c last) is l);
  apart = λ t before inside rest stay. no_collection_inside c last t es before inside rest l stay;
}
