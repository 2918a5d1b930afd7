-- The program's rules and type errors as the definition's.
use Rattle.definition.specs.Syntax as syntax
use Rattle.judging.specs.declared.Rule as program
use Rattle.judging.specs.declared.Rule.TheVariants as rule
use Rattle.judging.specs.declared.TypeError as declared
use Rattle.judging.specs.declared.TypeError.TheVariants as error

abbrev pub rule_of : program.Rule → syntax.Rule
rule_of rule.InfVar = syntax.InfVar
rule_of rule.InfLitInt = syntax.InfLitInt
rule_of rule.InfLitBool = syntax.InfLitBool
rule_of rule.InfLam = syntax.InfLam
rule_of rule.InfApp = syntax.InfApp
rule_of rule.InfLet = syntax.InfLet
rule_of rule.InfIf = syntax.InfIf
rule_of rule.InfArith = syntax.InfArith
rule_of rule.InfBool = syntax.InfBool
rule_of rule.InfCmp = syntax.InfCmp
rule_of rule.InfEq = syntax.InfEq
rule_of rule.InfAnn = syntax.InfAnn
rule_of rule.InfTAbs = syntax.InfTAbs
rule_of rule.InfTApp = syntax.InfTApp
rule_of rule.InfAppArr = syntax.InfAppArr
rule_of rule.InfAppETVar = syntax.InfAppETVar
rule_of rule.ChkLitInt = syntax.ChkLitInt
rule_of rule.ChkLitBool = syntax.ChkLitBool
rule_of rule.ChkLam = syntax.ChkLam
rule_of rule.ChkAll = syntax.ChkAll
rule_of rule.ChkSub = syntax.ChkSub
rule_of rule.SubRefl = syntax.SubRefl
rule_of rule.SubReflTVar = syntax.SubReflTVar
rule_of rule.SubReflETVar = syntax.SubReflETVar
rule_of rule.SubArr = syntax.SubArr
rule_of rule.SubAllR = syntax.SubAllR
rule_of rule.SubAllL = syntax.SubAllL
rule_of rule.SubInstL = syntax.SubInstL
rule_of rule.SubInstR = syntax.SubInstR
rule_of rule.InstLSolve = syntax.InstLSolve
rule_of rule.InstLReach = syntax.InstLReach
rule_of rule.InstLArr = syntax.InstLArr
rule_of rule.InstLAllR = syntax.InstLAllR
rule_of rule.InstRSolve = syntax.InstRSolve
rule_of rule.InstRReach = syntax.InstRReach
rule_of rule.InstRArr = syntax.InstRArr
rule_of rule.InstRAllL = syntax.InstRAllL

abbrev pub error_of : declared.TypeError → syntax.Error
error_of error.UnboundVariable = syntax.UnboundVariable
error_of error.ApplicationTypeError = syntax.ApplicationTypeError
error_of error.TypeApplicationError = syntax.TypeApplicationError
error_of error.OccursCheck = syntax.OccursCheck
error_of error.SubtypingError = syntax.SubtypingError
error_of error.InstantiationError = syntax.InstantiationError
error_of error.ParameterMismatch = syntax.ParameterMismatch
