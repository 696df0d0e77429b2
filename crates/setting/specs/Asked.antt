-- What the struct of the code asks, in the words of the definition.
use Rattle.definition.specs.Setting as D
use Rattle.setting.specs.declared.Setting.{Setting}

unfoldable pub asked : Setting → D.Setting
asked x = record { reflexive = x.is_reflexive; symmetric = x.is_symmetric; transitive = x.is_transitive; skip = x.skip }
